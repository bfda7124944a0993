use Rattle.std.proofs.Common.{Some, ap, sym, ◌∙◌}
use Rattle.cfg_json.proofs.Utf8.{utf8_of-valid, utf8_of-invalid}
use Rattle.cfg_json.proofs.strings.utf8_text.Goals as goal

pub returns-in-Ok : goal.returns-in-Ok
returns-in-Ok c = ap Some c.in-Ok.ensures.cases.0 ∙ sym (utf8_of-valid c.args.bytes.now c.in-Ok.ensures.cases.1)

pub returns-in-Err : goal.returns-in-Err
returns-in-Err c = sym (utf8_of-invalid c.args.bytes.now c.in-Err.ensures.cases.0)
