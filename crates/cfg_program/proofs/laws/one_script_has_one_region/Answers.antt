use Rattle.cfg_program.proofs.OneRegion.{one_region}
use Rattle.cfg_program.proofs.laws.one_script_has_one_region.Goals as goal

pub returns : goal.returns
returns c = λ script a b line other. one_region script a b line other
