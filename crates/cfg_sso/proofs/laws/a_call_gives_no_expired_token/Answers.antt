use Rattle.cfg_sso.proofs.SsoCauses.{bearer_cause}
use Rattle.cfg_sso.proofs.BearerTokens.{bearer_lasts}
use Rattle.cfg_sso.proofs.laws.a_call_gives_no_expired_token.Goals as goal

pub returns-clause-whole : goal.returns-clause-whole
returns-clause-whole g c = λ conf key found part out reads. bearer_lasts conf key found part out (bearer_cause conf key found part out reads)

pub returns-clause-answered : goal.returns-clause-answered
returns-clause-answered g c = λ conf key old new before later out call. bearer_lasts conf key call.ends.found call.ends.part out call.cause
