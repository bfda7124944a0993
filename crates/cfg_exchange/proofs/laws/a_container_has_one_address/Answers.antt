use Rattle.cfg_exchange.proofs.OnePlace.{one_full, one_place}
use Rattle.cfg_exchange.proofs.laws.a_container_has_one_address.Goals as goal

pub returns-clause-full : goal.returns-clause-full
returns-clause-full c = one_full

pub returns-clause-variables : goal.returns-clause-variables
returns-clause-variables c = one_place
