use Rattle.cfg_kept.proofs.OneHolding.{ended_begins}
use Rattle.cfg_kept.proofs.keeper.imds_token.Goals as goal

pub returns-in-Ok-clause-stopped : goal.returns-in-Ok-clause-stopped
returns-in-Ok-clause-stopped g c = λ memory. ended_begins _ _ _ _ _ _ _ c.in-Ok.ensures.follows
