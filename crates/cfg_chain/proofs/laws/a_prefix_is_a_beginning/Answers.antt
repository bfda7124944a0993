use Rattle.cfg_chain.proofs.BegunCalls.{prefix_begins}
use Rattle.cfg_chain.proofs.laws.a_prefix_is_a_beginning.Goals as goal

pub returns : goal.returns
returns c = prefix_begins
