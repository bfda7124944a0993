-- What the calls are configured by.
use Rattle.std.specs.Prelude.{ℕ, List, [], ◌∷◌, Some, true, codes}
use Rattle.cfg_base.specs.Text.{characters}
use Rattle.cfg_base.specs.Entries.{each_set}
use Rattle.cfg_types.specs.declared.environment.EnvText.{EnvText}
use Rattle.cfg_types.specs.declared.environment.EnvText.TheVariants.{Text}
use Rattle.cfg_profile.specs.declared.sections.ProfileSource.TheVariants.{Sections}
use Rattle.cfg_profile.specs.SectionParts.{SectionParts}
use Rattle.cfg_profile.specs.SectionSets.{sections_by_name}
use Rattle.cfg_profile.specs.Configuration.{Configuration, nothing_configured}

-- the folder of the tokens of sign-in sessions
abbrev pub variables : List (List ℕ × EnvText)
variables = (codes "AWS_LOGIN_CACHE_DIRECTORY", Text (characters (codes "/cache"))) ∷ []

-- a profile of a sign-in session, and one of a role over it
abbrev pub profiles : List SectionParts
profiles =
    record { name = codes "reader"; properties = (codes "login_session", codes "reader") ∷ [] }
    ∷ record { name = codes "auditor"; properties = (codes "role_arn", codes "arn:aws:iam::012345678901:role/auditor") ∷ (codes "source_profile", codes "reader") ∷ [] }
    ∷ []

-- these, and the name of a profile, without a region
abbrev pub unplaced : List ℕ → Configuration
unplaced profile = record (nothing_configured true) {
  environment = each_set variables;
  profiles = Sections (record { profiles = sections_by_name profiles; sessions = sections_by_name []; selected = codes "default" });
  profile_name = Some profile;
}

-- the same in one region
abbrev pub configured : List ℕ → Configuration
configured profile = record (unplaced profile) { region = Some (characters (codes "eu-west-1")) }
