-- The roles, and then the mark.
use Rattle.cfg_world.specs.Inquiry.{Done}
use Rattle.cfg_world.proofs.Inquiries.{ends_after}
use Rattle.cfg_providers.proofs.QuietSteps.{ends_quiet}
use Rattle.cfg_chain.specs.profile.Profiles.{marked, assumed}
use Rattle.cfg_chain.proofs.profile.provider.follow_roles.Goals as goal

pub returns : goal.returns
unfolding assumed
returns g c = ends_after (λ last. Done (marked last)) c.in_ok-last.ensures (ends_quiet c.in_ok-outcome.ensures)
