use Rattle.cfg_chain.proofs.MemberErrors.{call_fails, not_late}
use Rattle.cfg_chain.proofs.laws.a_call_has_no_other_errors.Goals as goal

pub returns-clause-of_members : goal.returns-clause-of_members
returns-clause-of_members g c = λ over found before later e h free. call_fails g.D.Devices over found before later e h free

pub returns-clause-in_time : goal.returns-clause-in_time
returns-clause-in_time g c = λ over found before later out h. not_late g.D.Devices over found before later out h
