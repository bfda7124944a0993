-- What a provider of the region of instance metadata asks, and what its call over a world leaves.
use Rattle.std.specs.Prelude.{◌⊎◌, Option}
use Rattle.cfg_types.specs.Environment.{Variables}
use Rattle.cfg_world.specs.declared.asking.Asking.{Ghosts as Askers}
use Rattle.cfg_world.specs.declared.devices.Devices.{Ghosts}
use Rattle.cfg_world.specs.Held.{Held}
use Rattle.cfg_world.specs.Inquiry.{Inquiry}
use Rattle.cfg_imds.specs.Calls.{CallBreaks}
use Rattle.cfg_imds.specs.ClientCalls.{Gets}
use Rattle.cfg_imds.specs.Clients.{ClientRules}
use Rattle.cfg_imds.specs.Left.{LeftBy}
use Rattle.cfg_imds.specs.Regions.{Located, is_disabled, region, region_path}
use Rattle.cfg_imds.specs.Settles.{Given}
use Rattle.cfg_imds.specs.Tokens.{Token, ReceiptedToken, bare_kept}
use Rattle.cfg_region.specs.Calls.{Asks}
use Rattle.cfg_region.specs.Environments.{Told}
use Rattle.cfg_region.specs.Metadata.{metadata_region}
use Rattle.cfg_region.specs.MetadataSetups.{MetadataRegion}

abbrev pub metadata_of : Variables → ClientRules → MetadataRegion
metadata_of variables client = record { variables = variables; client = client }

-- what it asks from the session token that is kept
abbrev pub located_by : MetadataRegion → Option Token → Inquiry Located
located_by m kept = region (is_disabled m.variables) m.client kept

-- what it asks where none is kept
abbrev pub metadata_tree : MetadataRegion → Inquiry Told
metadata_tree m = metadata_region m.variables m.client

-- The journal grew by exactly a part that gives this region, and leaves this token kept.
abbrev pub Locates : {D : Type 0} → Ghosts D → MetadataRegion → Option ReceiptedToken → Option ReceiptedToken → Held D → Held D → Told → Type 0
Locates d m kept left old new told = Asks d (located_by m (bare_kept kept)) old new (told, bare_kept left)

-- Memory ran out: it grew by the beginning of such a part.
abbrev pub LocateBreaks : {D : Type 0} → Ghosts D → MetadataRegion → Option ReceiptedToken → Held D → Held D → Type 0
LocateBreaks d m kept old new = CallBreaks d (located_by m (bare_kept kept)) old new

-- What is kept then: what was kept before; or what a settle that came to its end left; or what a get that
-- came to its end left.
abbrev pub LocateLeaves : {D : Type 0} → Ghosts D → Askers (Held D) → MetadataRegion → Option ReceiptedToken → Option ReceiptedToken → Held D → Held D → Type 0
LocateLeaves d a m kept left old new = LeftBy a m.client old new kept left ⊎ ((got : Given) × Gets d m.client region_path kept old new got left)
