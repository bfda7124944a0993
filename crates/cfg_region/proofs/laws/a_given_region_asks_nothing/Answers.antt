use Rattle.cfg_region.proofs.GivenRegions.{given_grows, given_is}
use Rattle.cfg_region.proofs.laws.a_given_region_asks_nothing.Goals as goal

pub returns : goal.returns
returns g c = λ told conf chain old new set. (given_grows told conf old new chain set, given_is told conf old new chain set)
