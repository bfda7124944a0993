-- What the selected profile gives credentials by.
use Rattle.std.specs.Prelude.{ℕ, List, [], Bool, true, false, Option, Some, None, Result, Ok, Err, if◌then◌else◌}
use Rattle.std.specs.Result.{result_ok}
use Rattle.cfg_types.specs.declared.errors.ConfigCause.TheVariants as config
use Rattle.cfg_types.specs.declared.errors.CredentialsError.{CredentialsError}
use Rattle.cfg_types.specs.declared.errors.CredentialsError.TheVariants as error
use Rattle.cfg_types.specs.declared.errors.NotLoadedCause.TheVariants as not_loaded
use Rattle.cfg_types.specs.declared.errors.ProfileFileError.{ProfileFileError}
use Rattle.cfg_types.specs.declared.errors.ProfileFileError.TheVariants as plan_error
use Rattle.cfg_profile.specs.declared.sections.ProfileSource.{ProfileSource}
use Rattle.cfg_profile.specs.declared.sections.ProfileSource.TheVariants.{Sections, Refused}
use Rattle.cfg_profile.specs.declared.chain.BaseProvider.{BaseProvider}
use Rattle.cfg_profile.specs.declared.chain.BaseProvider.TheVariants as base
use Rattle.cfg_profile.specs.declared.chain.ProfileChain.{ProfileChain}
use Rattle.cfg_profile.specs.SectionSets.{SectionSets}
use Rattle.cfg_profile.specs.Configuration.{Configuration}
use Rattle.cfg_profile.specs.Selected.{selected_name}
use Rattle.cfg_profile.proofs.PlanLaws.{the_plan}
use Rattle.cfg_sso.specs.Tokens.{session_of_base}
use Rattle.cfg_token.specs.declared.token_key.TokenKey.{TokenKey}
use Rattle.cfg_token.specs.declared.token_key.TokenKey.TheVariants.{Login}

abbrev pub Planned : Type 0
Planned = Result ProfileChain ProfileFileError

-- what the path of the profile of this name gives, where the caller has sources of these names: the one
-- answer that there is
unfoldable pub profile_plan : SectionSets → List ℕ → List (List ℕ) → Planned
profile_plan sets name sources = (the_plan sets name sources).answer

abbrev pub plan_in : ProfileSource → List ℕ → List (List ℕ) → Planned
plan_in (Refused reason) name sources = Err (plan_error.InvalidProfile reason)
plan_in (Sections sets) name sources = profile_plan sets name sources

-- what the selected profile gives credentials by, or why it gives none
unfoldable pub plan : Configuration → List (List ℕ) → Planned
plan conf sources = plan_in conf.profiles (selected_name conf) sources

-- The plan, where it needs no source of the caller's own. It is the same whatever sources the caller has.
unfoldable pub settled_plan : Configuration → Option ProfileChain
settled_plan conf = result_ok (plan conf [])

-- ---- where there is no plan

-- The errors of a profile that is not there, that has no credentials, or that gives a token in place
-- of credentials.
abbrev pub is_not_loaded_error : ProfileFileError → Bool
is_not_loaded_error plan_error.NoProfilesDefined = true
is_not_loaded_error (plan_error.ProfileDidNotContainCredentials name) = true
is_not_loaded_error (plan_error.MissingProfile name message) = true
is_not_loaded_error plan_error.TokenProviderConfig = true
is_not_loaded_error _ = false

-- What the provider of profiles answers where there is no plan: not loaded, or a fault of the
-- configuration.
abbrev pub refusal : ProfileFileError → CredentialsError
refusal plan_error.OutOfMemory = error.OutOfMemory
refusal e = if is_not_loaded_error e then error.CredentialsNotLoaded (not_loaded.Profile e) else error.InvalidConfiguration (config.Profile e)

-- ---- whose token is kept

-- whose token a base needs: that of a session of IAM Identity Center, where it names one, or that of a
-- sign-in session
abbrev pub key_of_base : BaseProvider → Option TokenKey
key_of_base (base.LoginSession session) = Some (Login session)
key_of_base b = session_of_base b

-- whose token a plan needs that is settled
abbrev pub key_of_settled : Option ProfileChain → Option TokenKey
key_of_settled (Some p) = key_of_base p.base
key_of_settled None = None

abbrev pub key_of_plan : Planned → Option TokenKey
key_of_plan (Ok p) = key_of_base p.base
key_of_plan (Err e) = None

-- Whose token a configuration needs. It is the same whatever sources the caller has.
unfoldable pub key_of : Configuration → Option TokenKey
key_of conf = key_of_plan (plan conf [])
