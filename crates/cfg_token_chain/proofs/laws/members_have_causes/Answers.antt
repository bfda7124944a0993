use Rattle.cfg_token_chain.proofs.TokenCauses.{member_cause}
use Rattle.cfg_token_chain.proofs.laws.members_have_causes.Goals as goal

pub returns : goal.returns
returns c = member_cause
