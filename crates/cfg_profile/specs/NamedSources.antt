-- Plans: chains whose base gives credentials, by a source that is there.
use Rattle.std.specs.Prelude.{◌≡◌, ℕ, List, [], ◌∷◌, Bool, false, ◌&&◌, ◌||◌, is_none, Result, Ok, Err, codes, if◌then◌else◌}
use Rattle.std.specs.List.{list_any}
use Rattle.std.specs.Str.{encode_utf8_all, str_eq_ignore_ascii_case}
use Rattle.cfg_types.specs.declared.errors.ProfileFileError.{ProfileFileError}
use Rattle.cfg_types.specs.declared.errors.ProfileFileError.TheVariants.{UnknownProvider, TokenProviderConfig}
use Rattle.cfg_profile.specs.declared.chain.BaseProvider.{BaseProvider}
use Rattle.cfg_profile.specs.declared.chain.BaseProvider.TheVariants as base
use Rattle.cfg_profile.specs.declared.chain.ProfileChain.{ProfileChain}
use Rattle.cfg_profile.specs.SectionSets.{SectionSets}
use Rattle.cfg_profile.specs.Plans.{IsChain}

-- the names of the sources that are always there
abbrev pub built_in : List (List ℕ)
built_in = codes "Environment" ∷ codes "Ec2InstanceMetadata" ∷ codes "EcsContainer" ∷ []

-- The bytes are those of the name, ASCII case of letters apart. Every other byte counts, blanks too.
abbrev pub is_alike : List ℕ → List ℕ → Bool
is_alike name bytes = str_eq_ignore_ascii_case bytes (encode_utf8_all name)

abbrev pub is_named : List ℕ → List ℕ → Bool
is_named name source = is_alike name (encode_utf8_all source)

abbrev pub is_custom : List (List ℕ) → List ℕ → Bool
is_custom sources name = list_any (is_named name) sources

abbrev pub is_built_in : List ℕ → Bool
is_built_in name = list_any (is_alike name) built_in

-- whether a source of credentials has this name: one of the given ones, or one that is always there
abbrev pub is_known : List (List ℕ) → List ℕ → Bool
is_known sources name = is_custom sources name || is_built_in name

-- whether the base gives an access token and no credentials: single sign-on without an account and a role
abbrev pub gives_token : BaseProvider → Bool
gives_token (base.Sso session region url account role) = is_none account && is_none role
gives_token _ = false

-- a chain over this base
abbrev pub planned_over : List (List ℕ) → ProfileChain → BaseProvider → Result ProfileChain ProfileFileError
planned_over sources chain (base.NamedSource name) = if is_known sources name then Ok chain else Err (UnknownProvider name)
planned_over sources chain b = if gives_token b then Err TokenProviderConfig else Ok chain

abbrev pub planned : List (List ℕ) → Result ProfileChain ProfileFileError → Result ProfileChain ProfileFileError
planned sources (Ok chain) = planned_over sources chain chain.base
planned sources (Err e) = Err e

-- what the profile of this name gives credentials by where these sources are there, or why it gives none
pub record IsPlan (sets : SectionSets) (name : List ℕ) (sources : List (List ℕ)) (answer : Result ProfileChain ProfileFileError) : Type 0 where
  pub resolved : Result ProfileChain ProfileFileError
  pub chain : IsChain sets name resolved
  pub plan : answer ≡ planned sources resolved
