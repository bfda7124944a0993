-- What a profile gives credentials by: a base, and roles that are assumed one after another.
use Rattle.std.specs.Prelude.{◌≡◌, ℕ, List, [], ◌∷◌, ◌++◌, map, reverse, Bool, ◌==◌, ◌||◌, Option, Some, None, Result, Ok, Err, codes, if◌then◌else◌}
use Rattle.std.specs.List.{flat_map}
use Rattle.std.specs.FinMap.{get, len}
use Rattle.std.specs.Str.{bytes_eq}
use Rattle.cfg_base.specs.TextMap.{Named}
use Rattle.cfg_base.specs.Text.{characters}
use Rattle.cfg_types.specs.ErrorTexts.{profile_text}
use Rattle.cfg_types.specs.declared.errors.ProfileFileError.{ProfileFileError}
use Rattle.cfg_types.specs.declared.errors.ProfileFileError.TheVariants.{NoProfilesDefined, CredentialLoop, MissingProfile}
use Rattle.cfg_profile.specs.declared.chain.RoleArn.{RoleArn}
use Rattle.cfg_profile.specs.declared.chain.BaseProvider.{BaseProvider}
use Rattle.cfg_profile.specs.declared.chain.ProfileChain.{ProfileChain}
use Rattle.cfg_profile.specs.SectionParts.{SectionParts}
use Rattle.cfg_profile.specs.SectionSets.{SectionSets}
use Rattle.cfg_profile.specs.Sections.{text_property}
use Rattle.cfg_profile.specs.Properties.{Source, Both, source}
use Rattle.cfg_profile.specs.StaticKeys.{invalid}
use Rattle.cfg_profile.specs.Bases.{key_base, base}
use Rattle.cfg_profile.specs.Paths.{is_empty, IsPath, End, Keys, Base, NoSource, OwnBase, Loops, Missing}

abbrev pub role_by : SectionParts → Option (List ℕ) → List RoleArn
role_by section None = []
role_by section (Some arn) = record {
  role_arn = arn;
  external_id = text_property section (codes "external_id");
  session_name = text_property section (codes "role_session_name");
} ∷ []

-- the role of a section, where it has one
abbrev pub role_of : SectionParts → List RoleArn
role_of section = role_by section (text_property section (codes "role_arn"))

abbrev pub one_or_none : Option SectionParts → List SectionParts
one_or_none None = []
one_or_none (Some section) = section ∷ []

abbrev pub sections_of : Named SectionParts → List (List ℕ) → List SectionParts
sections_of profiles names = flat_map (λ name. one_or_none (get profiles name)) names

-- the roles of these sections, the last one's first
abbrev pub roles_over : List SectionParts → List RoleArn
roles_over sections = reverse (flat_map role_of sections)

abbrev pub chain_over : List RoleArn → Result BaseProvider ProfileFileError → Result ProfileChain ProfileFileError
chain_over roles (Ok base) = Ok (record { base = base; roles = roles })
chain_over roles (Err e) = Err e

abbrev pub text_or_none : Option (List ℕ) → List ℕ
text_or_none (Some text) = text
text_or_none None = []

-- an error of the base of another profile than the first, told by its text
unfoldable pub wrapped_error : SectionParts → ProfileFileError → ProfileFileError
wrapped_error section e = invalid section (codes "could not load source profile: " ++ text_or_none (profile_text e))

abbrev pub wrapped : Bool → SectionParts → Result BaseProvider ProfileFileError → Result BaseProvider ProfileFileError
wrapped is_first section (Ok base) = Ok base
wrapped is_first section (Err e) = Err (if is_first then e else wrapped_error section e)

-- the base of a section that ends a path
abbrev pub base_of_last : Named SectionParts → Bool → SectionParts → Result BaseProvider ProfileFileError
base_of_last sessions is_first section = wrapped is_first section (base sessions section)

abbrev pub without_source : SectionParts → Source → ProfileFileError
without_source section Both = invalid section (codes "profile contained both source_profile and credential_source. Only one or the other can be defined")
without_source section _ = invalid section (codes "profile must contain `source_profile` or `credential_source` but neither were defined")

unfoldable pub missing_profile : List ℕ → List ℕ → ProfileFileError
missing_profile name from = MissingProfile (characters name) (characters (codes "could not find source profile " ++ (name ++ (codes " referenced from " ++ from))))

-- all names in order, and the one that was met again
abbrev pub loop_error : List (List ℕ) → List ℕ → List ℕ → ProfileFileError
loop_error before last next = CredentialLoop (map characters (before ++ last ∷ [])) (characters next)

-- What a path gives credentials by: the sections and names before the last ones, these, and how it ends.
abbrev pub outcome : Named SectionParts → List SectionParts → List (List ℕ) → List ℕ → SectionParts → End → Result ProfileChain ProfileFileError
outcome sessions sections before last section Keys = chain_over (roles_over sections) (key_base section)
outcome sessions sections before last section Base = chain_over (roles_over sections) (base_of_last sessions (is_empty before) section)
outcome sessions sections before last section NoSource = Err (without_source section (source section))
outcome sessions sections before last section OwnBase = chain_over (roles_over (sections ++ section ∷ [])) (base sessions section)
outcome sessions sections before last section (Loops next) = Err (loop_error before last next)
outcome sessions sections before last section (Missing next) = Err (missing_profile next last)

-- the answer where no section has the selected name
abbrev pub no_section : Named SectionParts → List ℕ → ProfileFileError
no_section profiles name =
    if (len profiles == 0) || bytes_eq name (codes "default") then NoProfilesDefined
    else missing_profile name (codes "the root profile")

-- an answer that a path from the profile gives
pub record GivenByPath (sets : SectionSets) (name : List ℕ) (answer : Result ProfileChain ProfileFileError) : Type 0 where
  pub before : List (List ℕ)
  pub last : List ℕ
  pub section : SectionParts
  pub end : End
  pub path : IsPath sets.profiles name before last section end
  pub gives : answer ≡ outcome sets.sessions (sections_of sets.profiles before) before last section end

abbrev pub IsChainAt : SectionSets → List ℕ → Option SectionParts → Result ProfileChain ProfileFileError → Type 0
IsChainAt sets name None answer = answer ≡ Err (no_section sets.profiles name)
IsChainAt sets name (Some section) answer = GivenByPath sets name answer

-- what the profile of this name gives credentials by, or why it gives none
abbrev pub IsChain : SectionSets → List ℕ → Result ProfileChain ProfileFileError → Type 0
IsChain sets name answer = IsChainAt sets name (get sets.profiles name) answer
