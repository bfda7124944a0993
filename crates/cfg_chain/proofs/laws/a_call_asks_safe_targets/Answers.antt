use Rattle.cfg_chain.proofs.SafeCalls.{answered, interrupted, begun, ended}
use Rattle.cfg_chain.proofs.laws.a_call_asks_safe_targets.Goals as goal

pub returns-clause-answered : goal.returns-clause-answered
returns-clause-answered g c = λ over found before later out h. answered g.D.Devices over found before later out h

pub returns-clause-interrupted : goal.returns-clause-interrupted
returns-clause-interrupted g c = λ over found before later h. interrupted g.D.Devices over found before later h

pub returns-clause-begun : goal.returns-clause-begun
returns-clause-begun g c = λ over old new found part h. begun over old new found part h

pub returns-clause-ended : goal.returns-clause-ended
returns-clause-ended g c = λ over old new found part out h. ended over old new found part out h
