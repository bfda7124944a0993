use Rattle.cfg_assume_role.proofs.Sessions.{answered, interrupted}
use Rattle.cfg_assume_role.proofs.laws.a_call_reads_no_expired_session.Goals as goal

pub returns-clause-answered : goal.returns-clause-answered
returns-clause-answered g c = λ call base old new found before later out h. answered g.D.Devices call base old new found before later out h

pub returns-clause-interrupted : goal.returns-clause-interrupted
returns-clause-interrupted g c = λ call base old new found before later h. interrupted g.D.Devices call base old new found before later h
