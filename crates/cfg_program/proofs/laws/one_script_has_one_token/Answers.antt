use Rattle.cfg_program.proofs.OneToken.{one_token}
use Rattle.cfg_program.proofs.laws.one_script_has_one_token.Goals as goal

pub returns : goal.returns
returns c = λ below script a b line other. one_token below script a b line other
