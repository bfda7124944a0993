use Rattle.cfg_chain.proofs.BegunCalls.{begins_call}
use Rattle.cfg_chain.proofs.laws.a_beginning_is_a_prefix.Goals as goal

pub returns : goal.returns
returns c = begins_call
