-- The path from the selected profile along its sources.
use Rattle.std.specs.Prelude.{◌≡◌, ℕ, suc, List, [], ◌∷◌, ◌++◌, Bool, true, false, ◌&&◌, not, Option, Some, None, IsTrue, IsSome, slice_get, if◌then◌else◌}
use Rattle.std.specs.List.{list_any}
use Rattle.std.specs.Str.{bytes_eq}
use Rattle.std.specs.FinMap.{get, contains_key}
use Rattle.cfg_base.specs.TextMap.{Named}
use Rattle.cfg_profile.specs.SectionParts.{SectionParts}
use Rattle.cfg_profile.specs.Properties as properties
use Rattle.cfg_profile.specs.Properties.{Source, Both, Neither, Own, has_both_keys, is_role, source}

-- How a path ends: with the keys of its last section; with the last section's base; at a role with both sources or none; at a role over its own section's base;
-- at a name that the path has already; at a name that no section has.
pub data End : Type 0 where
  Keys : End
  Base : End
  NoSource : End
  OwnBase : End
  Loops : List ℕ → End
  Missing : List ℕ → End

abbrev pub ending_by_source : Named SectionParts → (List ℕ → Bool) → Source → Option End
ending_by_source profiles on_path Both = Some NoSource
ending_by_source profiles on_path Neither = Some NoSource
ending_by_source profiles on_path Own = Some OwnBase
ending_by_source profiles on_path (properties.Named next) =
    if on_path next then Some (Loops next)
    else if contains_key profiles next then None
    else Some (Missing next)

-- The end of a path by its last section, the first case that applies. None: it does not end here.
abbrev pub ending : Named SectionParts → (List ℕ → Bool) → Bool → SectionParts → Option End
ending profiles on_path is_first section =
    if not is_first && has_both_keys section then Some Keys
    else if not (is_role section) then Some Base
    else ending_by_source profiles on_path (source section)

abbrev pub has_name : List (List ℕ) → List ℕ → Bool
has_name names name = list_any (bytes_eq name) names

abbrev pub is_empty : List (List ℕ) → Bool
is_empty [] = true
is_empty (name ∷ names) = false

-- the profile of a name is a role whose source is the profile of the other name
pub record LeadsTo (profiles : Named SectionParts) (name following : List ℕ) : Type 0 where
  pub section : SectionParts
  pub stands : get profiles name ≡ Some section
  pub is_role : IsTrue (is_role section)
  pub source : source section ≡ properties.Named following

pub record LacksKeys (profiles : Named SectionParts) (name : List ℕ) : Type 0 where
  pub section : SectionParts
  pub stands : get profiles name ≡ Some section
  pub lacks : has_both_keys section ≡ false

-- Names that a path goes through: the first is the selected one, they are distinct, each names a profile, each but the last is a role whose source is the following one,
-- and none but the first and the last has both keys.
pub record GoesThrough (profiles : Named SectionParts) (selected : List ℕ) (names : List (List ℕ)) : Type 0 where
  pub starts : slice_get names 0 ≡ Some selected
  pub distinct : (i j : ℕ) (name : List ℕ) → slice_get names i ≡ Some name → slice_get names j ≡ Some name → i ≡ j
  pub named : (i : ℕ) (name : List ℕ) → slice_get names i ≡ Some name → IsSome (get profiles name)
  pub leads : (i : ℕ) (name following : List ℕ) → slice_get names i ≡ Some name → slice_get names (suc i) ≡ Some following → LeadsTo profiles name following
  pub lacks_keys : (i : ℕ) (name following : List ℕ) → slice_get names (suc i) ≡ Some name → slice_get names (suc (suc i)) ≡ Some following → LacksKeys profiles name

-- the path has these names and then the last one, whose section decides how it ends
pub record IsPath (profiles : Named SectionParts) (selected : List ℕ) (before : List (List ℕ)) (last : List ℕ) (section : SectionParts) (end : End) : Type 0 where
  pub goes : GoesThrough profiles selected (before ++ last ∷ [])
  pub stands : get profiles last ≡ Some section
  pub ends : ending profiles (has_name (before ++ last ∷ [])) (is_empty before) section ≡ Some end
