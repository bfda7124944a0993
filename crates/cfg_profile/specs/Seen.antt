-- The walk's own values, as the definitions see them.
use Rattle.std.specs.Prelude.{◌≡◌, ℕ, List, Bool, map, Option, Some, None, Result}
use Rattle.std.specs.Str.{bytes_eq}
use Rattle.std.specs.FinMap.{get}
use Rattle.std.specs.HashSet.{HashSet, contains_by}
use denote.Ref.{Bor}
use Rattle.cfg_base.specs.TextMap.{Named}
use Rattle.cfg_profile.specs.declared.keys.Source as found
use Rattle.cfg_profile.specs.declared.keys.Source.TheVariants as origin
use Rattle.cfg_profile.specs.declared.walk.End as ended
use Rattle.cfg_profile.specs.declared.walk.End.TheVariants as ends
use Rattle.cfg_profile.specs.declared.walk.Step as stepped
use Rattle.cfg_profile.specs.declared.walk.Step.TheVariants.{On, EndsAt}
use Rattle.cfg_profile.specs.declared.walk.Path.{Path}
use Rattle.cfg_profile.specs.SectionParts.{SectionParts}
use Rattle.cfg_profile.specs.Properties.{Source, Both, Neither, Own, source}
use Rattle.cfg_profile.specs.Properties as properties
use Rattle.cfg_profile.specs.Paths.{End, Keys, Base, NoSource, OwnBase, Loops, Missing, IsPath, ending, ending_by_source}
use Rattle.cfg_profile.specs.Plans.{sections_of, outcome}
use Rattle.cfg_types.specs.declared.errors.ProfileFileError.{ProfileFileError}
use Rattle.cfg_profile.specs.declared.chain.ProfileChain.{ProfileChain}

abbrev pub seen_source : found.Source → Source
seen_source origin.Both = Both
seen_source origin.Neither = Neither
seen_source origin.Own = Own
seen_source (origin.Named name) = properties.Named name.now

abbrev pub seen_end : ended.End → End
seen_end ends.Keys = Keys
seen_end ends.Base = Base
seen_end ends.NoSource = NoSource
seen_end ends.OwnBase = OwnBase
seen_end (ends.Loops name) = Loops name.now
seen_end (ends.Missing name) = Missing name.now

-- whether a set has a name
abbrev pub on_set : {S : Type 0} → HashSet (Bor (List ℕ)) S → List ℕ → Bool
on_set visited name = contains_by (λ n. bytes_eq name n.now) visited

-- a path goes on to this section, which has this name
pub record GoesOn (profiles : Named SectionParts) (on_path : List ℕ → Bool) (is_first : Bool) (section : SectionParts) (next : List ℕ) (following : SectionParts) : Type 0 where
  pub not_here : ending profiles on_path is_first section ≡ None
  pub source : source section ≡ properties.Named next
  pub there : get profiles next ≡ Some following

abbrev pub IsStep : Named SectionParts → (List ℕ → Bool) → Bool → SectionParts → stepped.Step → Type 0
IsStep profiles on_path is_first section (On next following) = GoesOn profiles on_path is_first section next.now following.now
IsStep profiles on_path is_first section (EndsAt end) = ending profiles on_path is_first section ≡ Some (seen_end end)

-- the same from the name of the source
abbrev pub IsFollowed : Named SectionParts → (List ℕ → Bool) → List ℕ → stepped.Step → Type 0
IsFollowed profiles on_path name (On next following) =
    (ending_by_source profiles on_path (properties.Named name) ≡ None) × (next.now ≡ name) × (get profiles name ≡ Some following.now)
IsFollowed profiles on_path name (EndsAt end) = ending_by_source profiles on_path (properties.Named name) ≡ Some (seen_end end)

-- a path, with the sections of its names
pub record IsWalked (profiles : Named SectionParts) (selected : List ℕ) (walked : Path) : Type 0 where
  pub path : IsPath profiles selected (map (λ n. n.now) walked.names.items) walked.last_name.now walked.last.now (seen_end walked.end)
  pub sections : map (λ s. s.now) walked.sections.items ≡ sections_of profiles (map (λ n. n.now) walked.names.items)

-- what a walked path gives credentials by
abbrev pub outcome_of : Named SectionParts → Path → Result ProfileChain ProfileFileError
outcome_of sessions walked =
    outcome sessions (map (λ s. s.now) walked.sections.items) (map (λ n. n.now) walked.names.items) walked.last_name.now walked.last.now (seen_end walked.end)

-- a text is what is shown, where that is told
abbrev pub IsShown : Option (List ℕ) → List ℕ → Type 0
IsShown (Some shown) text = text ≡ shown
IsShown None text = Unit {0}
