use Rattle.cfg_region.proofs.BegunChains.{prefix_begins}
use Rattle.cfg_region.proofs.laws.a_prefix_is_a_beginning.Goals as goal

pub returns : goal.returns
returns g c = λ trees. prefix_begins trees
