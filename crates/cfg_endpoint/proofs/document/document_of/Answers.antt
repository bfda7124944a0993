-- The document is that of its date.
use Rattle.std.proofs.Common.{◌∙◌, subst}
use Rattle.std.specs.Str.{IsUtf8}
use Rattle.cfg_endpoint.proofs.Documents.{written_bytes}
use Rattle.cfg_endpoint.proofs.document.document_of.Goals as goal

pub returns-clause-written : goal.returns-clause-written
returns-clause-written c =
    let written = rw c.in-Some.is at c.in_ok-date.ensures.value in
    let document = c.as_str.ensures.bytes ∙ written_bytes c.args.served.now c.in-Some.date c.in_ok-text.text written c.in_ok-text.ensures.is in (
      c.in_ok-bytes.ensures ∙ c.as_bytes.ensures.value ∙ document,
      record { texts = c.in_ok-text.ensures.texts; dated = (c.in-Some.date, written); utf8 = subst IsUtf8 document c.as_str.utf8 },
    )
