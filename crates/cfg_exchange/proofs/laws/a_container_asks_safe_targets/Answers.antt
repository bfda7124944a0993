use Rattle.cfg_exchange.proofs.SafeRequests.{requests_safe}
use Rattle.cfg_exchange.proofs.laws.a_container_asks_safe_targets.Goals as goal

pub returns : goal.returns
returns c = λ env settings place part names begun. requests_safe env settings place names part begun
