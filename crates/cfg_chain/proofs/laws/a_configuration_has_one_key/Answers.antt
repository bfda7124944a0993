use Rattle.cfg_chain.proofs.OnePlan.{one_key}
use Rattle.cfg_chain.proofs.laws.a_configuration_has_one_key.Goals as goal

pub returns : goal.returns
returns c = one_key
