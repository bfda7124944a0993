use Rattle.cfg_region.proofs.BegunChains.{begins_chain}
use Rattle.cfg_region.proofs.laws.a_beginning_is_a_prefix.Goals as goal

pub returns : goal.returns
returns g c = λ trees. begins_chain trees
