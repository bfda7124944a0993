-- The base, and then how its errors are told.
use Rattle.cfg_kept.specs.KeptInquiry.{Gives}
use Rattle.cfg_kept.proofs.HoldingSteps.{holds_ends_then, holds_said}
use Rattle.cfg_chain.specs.profile.Bases.{in_base, based}
use Rattle.cfg_chain.proofs.profile.base.follow_based.Goals as goal

pub returns-clause-follows : goal.returns-clause-follows
unfolding based
returns-clause-follows g c = holds_ends_then (λ given. Gives (in_base given)) c.in_ok-given.ensures.follows (holds_said c.in_ok-outcome.ensures)
