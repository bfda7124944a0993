-- What the program configures, one step after another.
use Rattle.std.proofs.Common.{◌≡◌, ℕ, List, [], Some, Result, true, IfOk, refl, subst}
use Rattle.std.specs.Prelude.{codes}
use Rattle.cfg_base.specs.Entries.{each_set}
use Rattle.cfg_base.specs.TextMap.{Named}
use Rattle.cfg_base.specs.declared.memory.OutOfMemory.{OutOfMemory}
use Rattle.cfg_types.specs.declared.environment.EnvText.{EnvText}
use Rattle.cfg_profile.specs.declared.sections.ProfileSource.TheVariants.{Sections}
use Rattle.cfg_profile.specs.SectionParts.{SectionParts}
use Rattle.cfg_profile.specs.SectionSets.{SectionSets, sections_by_name}
use Rattle.cfg_profile.specs.Configuration.{Configuration, nothing_configured}
use Rattle.cfg_base.specs.Text.{characters}
use Rattle.caller.specs.Configured.{variables, profiles, unplaced, configured}

abbrev sets_of : List SectionParts → List SectionParts → SectionSets
sets_of profiles sessions = record { profiles = sections_by_name profiles; sessions = sections_by_name sessions; selected = codes "default" }

-- the name comes last
pub named_last : (given : List (List ℕ × EnvText)) (sections sessions : List SectionParts) (env : Named EnvText) (sets : SectionSets) (first with_env with_profiles : Configuration) (name : List ℕ) (named : Result Configuration OutOfMemory)
    → given ≡ variables → sections ≡ profiles → sessions ≡ []
    → env ≡ each_set given → sets ≡ sets_of sections sessions → first ≡ nothing_configured true
    → with_env ≡ record first { environment = env } → with_profiles ≡ record with_env { profiles = Sections sets }
    → IfOk named (λ c. c ≡ record with_profiles { profile_name = Some name }) → IfOk named (λ c. c ≡ unplaced name)
named_last given sections sessions env sets first with_env with_profiles name named g p t e s f v o is =
    let all : record with_profiles { profile_name = Some name } ≡ unplaced name = rw (o, v, f, s, e, g, p, t) refl in
    subst (λ x. IfOk named (λ c. c ≡ x)) all is

-- and then the region
pub placed : (named config : Configuration) (region name : List ℕ) → named ≡ unplaced name → region ≡ characters (codes "eu-west-1") → config ≡ record named { region = Some region } → config ≡ configured name
placed named config region name n r c = rw (c, n, r) refl
