-- One section, and what it gives.
use Rattle.cfg_kept.specs.KeptInquiry.{Gives}
use Rattle.cfg_kept.proofs.HoldingSteps.{holds_ends_then, holds_said}
use Rattle.cfg_login.specs.SignIns.{credentials_in, sign_in_credentials}
use Rattle.cfg_login.proofs.steps.follow_login.Goals as goal

pub returns-clause-follows : goal.returns-clause-follows
unfolding sign_in_credentials
returns-clause-follows g c = holds_ends_then (λ given. Gives (credentials_in c.args.by given)) c.in_ok-given.ensures.follows (holds_said c.in_ok-outcome.ensures)
