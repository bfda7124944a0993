-- Laws of paths, chains and plans.
use Rattle.std.specs.Prelude.{◌≡◌, ◌⊎◌, ◌↔◌, ℕ, ◌≤◌, List, length, Some, Result, Ok, Err, IsSome, slice_get, true}
use Rattle.std.specs.FinMap.{get, len}
use Rattle.std.specs.Str.{encode_utf8_all, str_to_ascii_lowercase}
use Rattle.cfg_base.specs.TextMap.{Named}
use Rattle.cfg_types.specs.ErrorTexts.{profile_text}
use Rattle.cfg_types.specs.declared.errors.ProfileFileError.{ProfileFileError}
use Rattle.cfg_profile.specs.declared.chain.ProfileChain.{ProfileChain}
use Rattle.cfg_profile.specs.SectionParts.{SectionParts}
use Rattle.cfg_profile.specs.SectionSets.{SectionSets}
use Rattle.cfg_profile.specs.Paths.{IsPath, End}
use Rattle.cfg_profile.specs.Bases.{base}
use Rattle.cfg_profile.specs.Plans.{IsChain}
use Rattle.cfg_profile.specs.NamedSources.{IsPlan, is_known, built_in}

-- a path from a profile, and that there is no other
pub record OnlyPath (profiles : Named SectionParts) (selected : List ℕ) : Type 0 where
  pub before : List (List ℕ)
  pub last : List ℕ
  pub section : SectionParts
  pub end : End
  pub path : IsPath profiles selected before last section end
  pub only : (before' : List (List ℕ)) (last' : List ℕ) (section' : SectionParts) (end' : End) → IsPath profiles selected before' last' section' end'
      → (before ≡ before') × (last ≡ last') × (section ≡ section') × (end ≡ end')

abbrev pub OnePath : Type 0
OnePath = (profiles : Named SectionParts) (selected : List ℕ) → IsSome (get profiles selected) → OnlyPath profiles selected

-- an answer of which this is said, and that it is said of no other
pub record OnlyAnswer (Said : Result ProfileChain ProfileFileError → Type 0) : Type 0 where
  pub answer : Result ProfileChain ProfileFileError
  pub said : Said answer
  pub only : (other : Result ProfileChain ProfileFileError) → Said other → answer ≡ other

abbrev pub OneChain : Type 0
OneChain = (sets : SectionSets) (name : List ℕ) → OnlyAnswer (IsChain sets name)

abbrev pub OnePlan : Type 0
OnePlan = (sets : SectionSets) (name : List ℕ) (sources : List (List ℕ)) → OnlyAnswer (IsPlan sets name sources)

abbrev pub FewRoles : Type 0
FewRoles = (sets : SectionSets) (name : List ℕ) (chain : ProfileChain) → IsChain sets name (Ok chain) → length chain.roles ≤ len sets.profiles

-- an error of a base has a text
abbrev pub TellsBases : Type 0
TellsBases = (sessions : Named SectionParts) (section : SectionParts) (error : ProfileFileError) → base sessions section ≡ Err error → IsSome (profile_text error)

-- the bytes of a name, its ASCII letters in lower case
abbrev pub lowered : List ℕ → List ℕ
lowered name = str_to_ascii_lowercase (encode_utf8_all name)

-- one of these, so viewed, is this text
pub record IsAmong (view : List ℕ → List ℕ) (text : List ℕ) (names : List (List ℕ)) : Type 0 where
  pub place : ℕ
  pub name : List ℕ
  pub stands : slice_get names place ≡ Some name
  pub same : view name ≡ text

-- A name is known exactly where a source has the same bytes, ASCII case of letters apart: blanks count.
abbrev pub KnownByBytes : Type 0
KnownByBytes = (sources : List (List ℕ)) (name : List ℕ) →
    (is_known sources name ≡ true) ↔ (IsAmong lowered (lowered name) sources ⊎ IsAmong str_to_ascii_lowercase (lowered name) built_in)

-- names that are alike but for ASCII case are known together
abbrev pub KnownInAnyCase : Type 0
KnownInAnyCase = (sources : List (List ℕ)) (name other : List ℕ) → lowered name ≡ lowered other → is_known sources name ≡ is_known sources other
