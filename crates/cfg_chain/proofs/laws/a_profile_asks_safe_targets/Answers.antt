use Rattle.cfg_chain.proofs.SafeCalls.{profile_answered, profile_interrupted}
use Rattle.cfg_chain.proofs.laws.a_profile_asks_safe_targets.Goals as goal

pub returns-clause-answered : goal.returns-clause-answered
returns-clause-answered g c = λ over old new found before later out h. profile_answered g.D.Devices over found before later old new out h

pub returns-clause-interrupted : goal.returns-clause-interrupted
returns-clause-interrupted g c = λ over old new found before later h. profile_interrupted g.D.Devices over found before later old new h
