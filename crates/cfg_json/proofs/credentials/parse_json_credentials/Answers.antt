use Rattle.std.proofs.Common.{refl}
use Rattle.std.proofs.lemmas.Result.{err_from_is_err_and}
use Rattle.cfg_json.specs.Documents.{IsTable, document_of}
use Rattle.cfg_json.proofs.DocumentLaws.{text_fails_at, fields_answer, document_fields}
use Rattle.cfg_json.proofs.credentials.parse_json_credentials.Goals as goal

pub returns-in_err-members : goal.returns-in_err-members
returns-in_err-members c = let p = err_from_is_err_and c.from_residual.result c.from_residual.ensures.1 in rw (p.1, p.2) (text_fails_at IsTable c.args.text.now _ _ c.as_bytes.ensures.value c.in_err-members.ensures)

pub returns : goal.returns
returns c =
    fields_answer IsTable c.args.text.now c.in_ok-members.members.list (document_of c.in_ok-members.members.list) c.credentials_of.result (rw c.as_bytes.ensures.value at c.in_ok-members.ensures) refl (document_fields c.in_ok-members.members.list) (rw c.as_slice.ensures at c.credentials_of.ensures)
