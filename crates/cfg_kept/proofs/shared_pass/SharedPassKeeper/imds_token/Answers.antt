use Rattle.std.proofs.Common.{None}
use Rattle.cfg_kept.proofs.shared_pass.SharedPassKeeper.imds_token.Goals as goal

pub returns-clause-follows : goal.returns-clause-follows
returns-clause-follows g c = c.hold_token.ensures None tt
