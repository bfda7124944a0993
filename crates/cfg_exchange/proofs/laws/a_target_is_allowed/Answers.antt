use Rattle.cfg_exchange.proofs.SafeTargets.{target_is_allowed}
use Rattle.cfg_exchange.proofs.laws.a_target_is_allowed.Goals as goal

pub returns : goal.returns
returns c = λ text dns named part target. target_is_allowed text dns target named part
