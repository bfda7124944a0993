use Rattle.cfg_chain.proofs.Calls.{one_call}
use Rattle.cfg_chain.proofs.laws.one_script_one_call.Goals as goal

pub returns : goal.returns
returns c = one_call
