use Rattle.cfg_token_chain.proofs.TokenCauses.{member_cause}
use Rattle.cfg_token_chain.proofs.Unexpired.{profile_lasts, default_lasts, member_lasts}
use Rattle.cfg_token_chain.proofs.laws.a_call_gives_no_expired_token.Goals as goal

pub returns-clause-member : goal.returns-clause-member
returns-clause-member g c = λ member found part out reads. member_lasts member found part out (member_cause member found part out reads)

pub returns-clause-profile : goal.returns-clause-profile
returns-clause-profile g c = λ conf old new found before later out call. profile_lasts conf found call.part out call.call.cause

pub returns-clause-chain : goal.returns-clause-chain
returns-clause-chain g c = λ conf old new found before later out call. default_lasts conf found call.part out call.call.cause
