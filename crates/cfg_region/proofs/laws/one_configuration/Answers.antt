use Rattle.cfg_region.proofs.GivenRegions.{one_set_alike, set_prefix}
use Rattle.cfg_region.proofs.laws.one_configuration.Goals as goal

pub returns-clause-set : goal.returns-clause-set
returns-clause-set g c = one_set_alike

pub returns-clause-begun : goal.returns-clause-begun
returns-clause-begun g c = set_prefix
