use Rattle.cfg_credentials_chain.proofs.MemberCauses.{part_cause}
use Rattle.cfg_credentials_chain.proofs.laws.members_have_causes.Goals as goal

pub returns : goal.returns
returns c = part_cause
