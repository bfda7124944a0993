use Rattle.cfg_credentials_chain.proofs.Sessions.{answered, interrupted}
use Rattle.cfg_credentials_chain.proofs.laws.a_call_reads_no_expired_session.Goals as goal

pub returns-clause-answered : goal.returns-clause-answered
returns-clause-answered g c = λ members olds news before later out h. answered g.D.Devices members olds news before later out h

pub returns-clause-interrupted : goal.returns-clause-interrupted
returns-clause-interrupted g c = λ members olds news before later h. interrupted g.D.Devices members olds news before later h
