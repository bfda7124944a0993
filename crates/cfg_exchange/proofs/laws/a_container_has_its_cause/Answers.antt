use Rattle.cfg_exchange.proofs.Causes.{has_cause}
use Rattle.cfg_exchange.proofs.laws.a_container_has_its_cause.Goals as goal

pub returns : goal.returns
returns c = has_cause
