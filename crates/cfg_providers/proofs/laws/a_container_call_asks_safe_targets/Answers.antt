use Rattle.cfg_providers.proofs.SafeTargets.{answered, interrupted}
use Rattle.cfg_providers.proofs.laws.a_container_call_asks_safe_targets.Goals as goal

pub returns-clause-answered : goal.returns-clause-answered
returns-clause-answered g c = λ setup before later out h. answered g.D.Devices setup before later out h

pub returns-clause-interrupted : goal.returns-clause-interrupted
returns-clause-interrupted g c = λ setup before later h. interrupted g.D.Devices setup before later h
