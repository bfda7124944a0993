use Rattle.cfg_script.proofs.HeaderNames.{named, not_named}
use Rattle.cfg_script.proofs.scalars.is_header_name.Goals.{in-Ok, in-Err-Invalid, in-Err-OutOfMemory}
use Rattle.cfg_script.proofs.scalars.is_header_name.Goals as goal

pub returns : goal.returns
returns c =
    let invalid = rw c.as_bytes.ensures.value at c.from_bytes.ensures.invalid in
    elim c.match-from_bytes.branch [
      | in-Ok w ↦ rw w.result-is (named c.args.name.now (λ no. let refused = invalid.1 no in let is = w.in-Ok.is in cc))
      | in-Err-Invalid w ↦ rw w.result-is (not_named c.args.name.now (invalid.0 (let is = w.in-Err-Invalid.is in let kind = w.in-Err-Invalid.field-0-is in cc)))
      | in-Err-OutOfMemory w ↦ rw w.result-is tt
    ]
