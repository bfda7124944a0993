use Rattle.cfg_chain.proofs.ContainerTargets.{member_safe}
use Rattle.cfg_chain.proofs.laws.a_container_member_asks_safe_targets.Goals as goal

pub returns : goal.returns
returns c = member_safe
