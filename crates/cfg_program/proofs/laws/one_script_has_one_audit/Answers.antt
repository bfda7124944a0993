use Rattle.cfg_program.proofs.Auditing.{one_audit}
use Rattle.cfg_program.proofs.laws.one_script_has_one_audit.Goals as goal

pub returns : goal.returns
returns c = λ sources script a b line other. one_audit sources script a b line other
