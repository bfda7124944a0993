-- The region that a profile names, itself or by its sources. It is a function, so that a tree of questions
-- may tell it; a law says that it is the one answer that cfg_profile's relation has.
use Rattle.std.specs.Prelude.{ℕ, zero, suc, List, Option, Some, None, codes}
use Rattle.std.specs.FinMap.{get, len}
use Rattle.cfg_base.specs.Text.{characters}
use Rattle.cfg_base.specs.TextMap.{Named}
use Rattle.cfg_profile.specs.Configuration.{Configuration}
use Rattle.cfg_profile.specs.SectionParts.{SectionParts}
use Rattle.cfg_profile.specs.Sections.{property}
use Rattle.cfg_profile.specs.Selected.{selected_name}
use Rattle.cfg_profile.specs.declared.sections.ProfileSource.{ProfileSource}
use Rattle.cfg_profile.specs.declared.sections.ProfileSource.TheVariants.{Sections, Refused}
use Rattle.cfg_region.specs.Environments.{Told}

-- the region that is named, else that of the source that is named
abbrev pub own_or_source : (List ℕ → Told) → Option (List ℕ) → Option (List ℕ) → Told
own_or_source of_source (Some region) source = Some (characters region)
own_or_source of_source None (Some source) = of_source source
own_or_source of_source None None = None

abbrev pub section_region : (List ℕ → Told) → Option SectionParts → Told
section_region of_source None = None
section_region of_source (Some section) = own_or_source of_source (property section (codes "region")) (property section (codes "source_profile"))

-- the region of the profile of this name, in so many profiles of its path at most
abbrev pub region_within : ℕ → Named SectionParts → List ℕ → Told
region_within zero profiles name = None
region_within (suc more) profiles name = section_region (region_within more profiles) (get profiles name)

-- the region of the profile of this name: a path of more profiles than there are comes back
unfoldable pub named_region : Named SectionParts → List ℕ → Told
named_region profiles name = region_within (len profiles) profiles name

-- refused sections have none
abbrev pub region_in : ProfileSource → List ℕ → Told
region_in (Sections sets) name = named_region sets.profiles name
region_in (Refused reason) name = None

-- the region of the selected profile
abbrev pub profile_region : Configuration → Told
profile_region conf = region_in conf.profiles (selected_name conf)
