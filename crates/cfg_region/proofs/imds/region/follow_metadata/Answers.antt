-- The session token that the call leaves is given up.
use Rattle.cfg_region.specs.Metadata.{metadata_region}
use Rattle.cfg_region.proofs.RegionSteps.{token_left}
use Rattle.cfg_region.proofs.imds.region.follow_metadata.Goals as goal

pub returns : goal.returns
unfolding metadata_region
returns g c = token_left _ _ _ _ _ c.follow_region.result c.follow_region.ensures.follows
