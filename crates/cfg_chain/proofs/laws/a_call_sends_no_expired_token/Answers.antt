use Rattle.cfg_chain.proofs.SignOns.{answered, interrupted, by_profile, profile_interrupted, begun, ended}
use Rattle.cfg_chain.proofs.laws.a_call_sends_no_expired_token.Goals as goal

pub returns-clause-answered : goal.returns-clause-answered
returns-clause-answered g c = λ over found before later out h. answered g.D.Devices over found before later out h

pub returns-clause-interrupted : goal.returns-clause-interrupted
returns-clause-interrupted g c = λ over found before later h. interrupted g.D.Devices over found before later h

pub returns-clause-by_profile : goal.returns-clause-by_profile
returns-clause-by_profile g c = λ over old new found before later out h. by_profile g.D.Devices over found before later old new out h

pub returns-clause-profile_interrupted : goal.returns-clause-profile_interrupted
returns-clause-profile_interrupted g c = λ over old new found before later h. profile_interrupted g.D.Devices over found before later old new h

pub returns-clause-begun : goal.returns-clause-begun
returns-clause-begun g c = λ over old new found part h. begun over old new found part h

pub returns-clause-ended : goal.returns-clause-ended
returns-clause-ended g c = λ over old new found part out h. ended over old new found part out h
