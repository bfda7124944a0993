-- The region that instance metadata tells a call that has no session token yet.
use Rattle.std.specs.Prelude.{◌≡◌, None, false}
use Rattle.cfg_types.specs.Environment.{Variables}
use Rattle.cfg_world.specs.Inquiry.{Inquiry, Done, after}
use Rattle.cfg_imds.specs.Clients.{ClientRules}
use Rattle.cfg_imds.specs.Calls.{is_memory}
use Rattle.cfg_imds.specs.Regions.{is_disabled, region, region_in}
use Rattle.cfg_imds.specs.Settles.{Given}
use Rattle.cfg_region.specs.Environments.{Told}

unfoldable pub metadata_region : Variables → ClientRules → Inquiry Told
metadata_region env client = after (region (is_disabled env) client None) (λ out. Done out.0)

-- what a get gave, where memory did not run out, as a region
abbrev pub IsGot : Given → Told → Type 0
IsGot got region = (is_memory got ≡ false) × (region_in got ≡ region)
