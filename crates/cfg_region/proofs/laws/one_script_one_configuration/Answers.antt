use Rattle.cfg_region.proofs.GivenRegions.{one_set}
use Rattle.cfg_region.proofs.laws.one_script_one_configuration.Goals as goal

pub returns : goal.returns
returns g c = one_set
