-- The region of a profile.
use Rattle.std.specs.Prelude.{◌≡◌, ℕ, List, Option, Some, None, codes}
use Rattle.std.specs.FinMap.{get}
use Rattle.cfg_base.specs.TextMap.{Named}
use Rattle.cfg_base.specs.Text.{characters}
use Rattle.cfg_profile.specs.SectionParts.{SectionParts}
use Rattle.cfg_profile.specs.Sections.{property}

-- A profile has the region that it names itself, else that of its source.
pub data HasRegion (profiles : Named SectionParts) : List ℕ → List ℕ → Type 0 where
  itself : {name region : List ℕ} (section : SectionParts) → get profiles name ≡ Some section → property section (codes "region") ≡ Some region → HasRegion profiles name region
  by_source : {name source region : List ℕ} (section : SectionParts) → get profiles name ≡ Some section → property section (codes "region") ≡ None → property section (codes "source_profile") ≡ Some source → HasRegion profiles source region → HasRegion profiles name region

abbrev pub HasNoRegion : Named SectionParts → List ℕ → Type 0
HasNoRegion profiles name = (region : List ℕ) → HasRegion profiles name region → ⊥

-- the region of the profile, or none where it has none
abbrev pub IsRegion : Named SectionParts → List ℕ → Option (List ℕ) → Type 0
IsRegion profiles name None = HasNoRegion profiles name
IsRegion profiles name (Some region) = (value : List ℕ) × HasRegion profiles name value × (region ≡ characters value)
