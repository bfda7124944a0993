use Rattle.cfg_region.proofs.Chains.{one_region_told}
use Rattle.cfg_region.proofs.laws.one_script_one_region.Goals as goal

pub returns : goal.returns
returns g c = λ trees. one_region_told trees
