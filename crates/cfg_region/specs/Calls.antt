-- What calls over a world leave of its journal.
use Rattle.std.specs.Prelude.{◌≡◌, ◌⊎◌, List, true, Option, Some, None}
use Rattle.cfg_types.specs.Environment.{Variables}
use Rattle.cfg_world.specs.declared.devices.Devices.{Ghosts}
use Rattle.cfg_world.specs.Fits.{Pair}
use Rattle.cfg_world.specs.Grows.{Grows}
use Rattle.cfg_world.specs.Held.{Held}
use Rattle.cfg_world.specs.Inquiry.{Inquiry, Reads}
use Rattle.cfg_profile.specs.Configuration.{Configuration, nothing_configured}
use Rattle.cfg_profile.specs.declared.sections.ProfileSource.{ProfileSource}
use Rattle.cfg_imds.specs.Calls.{CallBreaks}
use Rattle.cfg_region.specs.ChainParts.{AreParts}
use Rattle.cfg_region.specs.Defaults.{DefaultRegions, IsDefault}
use Rattle.cfg_region.specs.Environments.{Told}
use Rattle.cfg_region.specs.Sources.{Source, ByDefault, tree}

-- The journal grew by exactly the parts of these inquiries, up to the first that gave a region.
pub record AsksInOrder {D : Type 0} (d : Ghosts D) (trees : List (Inquiry Told)) (old new : Held D) (region : Told) : Type 0 where
  pub part : List Pair
  pub grows : Grows d part old new
  pub parts : AreParts trees part region

-- The journal grew by exactly a part over which the inquiry comes to this outcome.
pub record Asks {D R : Type 0} (d : Ghosts D) (inquiry : Inquiry R) (old new : Held D) (out : R) : Type 0 where
  pub part : List Pair
  pub grows : Grows d part old new
  pub reads : Reads inquiry part out

-- ---- a region for a configuration

-- a configuration of these variables and sections alone
abbrev pub configured_with : Variables → ProfileSource → Configuration
configured_with env profiles = record (nothing_configured true) { environment = env; profiles = profiles }

-- the source that is asked: the one that was given, else a default chain over the configuration
abbrev pub IsAsked : Option Source → Configuration → Source → Type 0
IsAsked (Some given) conf source = source ≡ given
IsAsked None conf source = (chain : DefaultRegions) × IsDefault conf chain × (source ≡ ByDefault chain)

-- The journal grew by exactly the part of that source, and what it gives, none included, is the region of
-- the configuration, of which nothing else changed.
pub record RegionSet {D : Type 0} (d : Ghosts D) (given : Option Source) (conf : Configuration) (old new : Held D) (set : Configuration) : Type 0 where
  pub source : Source
  pub asked : IsAsked given conf source
  pub part : List Pair
  pub grows : Grows d part old new
  pub region : Told
  pub reads : Reads (tree source) part region
  pub is : set ≡ record conf { region = region }

-- Memory ran out while it was asked: the journal grew by the beginning of that part.
pub record RegionBegun {D : Type 0} (d : Ghosts D) (given : Option Source) (conf : Configuration) (old new : Held D) : Type 0 where
  pub source : Source
  pub asked : IsAsked given conf source
  pub breaks : CallBreaks d (tree source) old new

-- Memory ran out: before anything was asked, or while it was.
abbrev pub RegionBreaks : {D : Type 0} → Ghosts D → Option Source → Configuration → Held D → Held D → Type 0
RegionBreaks d given conf old new = (new ≡ old) ⊎ RegionBegun d given conf old new
