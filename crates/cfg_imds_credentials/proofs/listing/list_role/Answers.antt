use Rattle.cfg_kept.specs.KeptInquiry.{Gives}
use Rattle.cfg_kept.proofs.HoldingSteps.{holds_breaks_then, holds_breaks_here}
use Rattle.cfg_imds_credentials.specs.Metadata.{listed, listing}
use Rattle.cfg_imds_credentials.proofs.ReadSteps.{listing_ends}
use Rattle.cfg_imds_credentials.proofs.listing.list_role.Goals as goal

pub returns-in-Ok-clause-follows : goal.returns-in-Ok-clause-follows
returns-in-Ok-clause-follows g c = listing_ends _ _ _ _ _ _ _ _ _ c.in_ok-got.ensures.follows c.in-Ok.ensures

pub returns-in-Err-clause-follows : goal.returns-in-Err-clause-follows
unfolding listing
returns-in-Err-clause-follows g c = holds_breaks_then (λ got. Gives (listed got)) c.in_ok-got.ensures.follows holds_breaks_here
