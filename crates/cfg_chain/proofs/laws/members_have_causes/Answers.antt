use Rattle.cfg_chain.proofs.MemberCauses.{has_cause}
use Rattle.cfg_chain.proofs.laws.members_have_causes.Goals as goal

pub returns : goal.returns
returns c = has_cause
