-- What was retrieved is left.
use Rattle.std.proofs.Common.{rules}
use Rattle.cfg_kept.proofs.OneHolding.{holds_left}
use Rattle.cfg_imds_credentials.proofs.follow.keep_retrieved.Goals as goal

pub returns-clause-follows : goal.returns-clause-follows
returns-clause-follows g c = holds_left _ _ _ _ _ _ _ c.set_retrieved.ensures.left (search rules)
