-- Why the selected profile gives no credentials.
use Rattle.std.specs.Option.{option_or}
use Rattle.std.specs.Prelude.{◌≡◌, ℕ, List, [], ◌++◌, Bool, true, false, Option, Some, None, option_map, option_and_then, Ok, Err, codes}
use Rattle.std.specs.List.{last_or}
use Rattle.std.specs.Result.{result_err}
use Rattle.cfg_types.specs.declared.errors.CredentialsError.{CredentialsError}
use Rattle.cfg_types.specs.declared.errors.CredentialsError.TheVariants.{ProviderError}
use Rattle.cfg_types.specs.declared.errors.ProfileFileError.TheVariants as plan_error
use Rattle.cfg_types.specs.declared.errors.ProviderCause.TheVariants as cause
use Rattle.cfg_world.specs.Fits.{Pair}
use Rattle.cfg_kept.specs.Kinds.{Value}
use Rattle.cfg_kept.specs.KeptInquiry.{Reads}
use Rattle.cfg_imds_credentials.specs.Causes.{CauseMetadata}
use Rattle.cfg_login.specs.declared.asked_by.AskedBy.TheVariants as by
use Rattle.cfg_login.specs.SignInCauses.{SignInCause}
use Rattle.cfg_sso.specs.SsoCauses.{SsoCause}
use Rattle.cfg_exchange.specs.ContainerCauses.{why_container}
use Rattle.cfg_profile.specs.declared.chain.BaseProvider.{BaseProvider}
use Rattle.cfg_profile.specs.declared.chain.BaseProvider.TheVariants as base
use Rattle.cfg_profile.specs.declared.chain.ProfileChain.{ProfileChain}
use Rattle.cfg_profile.specs.NamedSources.{is_alike}
use Rattle.cfg_providers.specs.CustomSources.{Answer, last_named}
use Rattle.cfg_providers.specs.EnvironmentCauses.{why_environment}
use Rattle.cfg_providers.specs.Processes.{why_process}
use Rattle.cfg_providers.specs.RoleCauses.{why_roles}
use Rattle.cfg_providers.specs.WebIdentities.{why_entry}
use Rattle.cfg_chain.specs.Settings.{Setting, names_of, container_settings, named_metadata}
use Rattle.cfg_chain.specs.profile.Plans.{Planned, plan, refusal}
use Rattle.cfg_chain.specs.profile.Bases.{base_tree, signed_on}

-- why a container gives no credentials, over its part
abbrev pub why_by_container : Setting → List Pair → Option CredentialsError
why_by_container s part = why_container s.configuration.environment (container_settings s.configuration) s.container part

-- By whether the name is that of the environment, of a container, of instance metadata. No plan names
-- another.
abbrev pub BuiltInCause : Setting → List ℕ → Bool → Bool → Bool → List Value → List Pair → Answer → Type 0
BuiltInCause s name true container metadata found part given = result_err given ≡ why_environment s.configuration.environment
BuiltInCause s name false true metadata found part given = result_err given ≡ why_by_container s part
BuiltInCause s name false false true found part given = CauseMetadata (named_metadata s) found part given
BuiltInCause s name false false false found part given = result_err given ≡ Some (refusal (plan_error.UnknownProvider name))

-- one of the caller's own sources by its own answer
abbrev pub SourceCause : Setting → List ℕ → Option Answer → List Value → List Pair → Answer → Type 0
SourceCause s name (Some answer) found part given = result_err given ≡ result_err answer
SourceCause s name None found part given =
    BuiltInCause s name (is_alike name (codes "Environment")) (is_alike name (codes "EcsContainer")) (is_alike name (codes "Ec2InstanceMetadata")) found part given

-- Why a base gives no credentials, over what it found and its part, by the rule of its provider: a line
-- for each. No plan has IAM Identity Center without an account or a role.
abbrev pub BaseCause : Setting → BaseProvider → List Value → List Pair → Answer → Type 0
BaseCause s (base.AccessKey keys) found part given = result_err given ≡ None
BaseCause s (base.NamedSource name) found part given = SourceCause s name (last_named name s.sources) found part given
BaseCause s (base.WebIdentityTokenRole arn file session) found part given = result_err given ≡ option_and_then why_entry (last_or None part)
BaseCause s (base.CredentialProcess command account) found part given = result_err given ≡ why_process account part
BaseCause s (base.Sso session region url (Some account) (Some role)) found part given = SsoCause s.configuration (signed_on session region url account role) found part given
BaseCause s (base.LoginSession session) found part given = SignInCause s.configuration session by.Profile found part given
BaseCause s _ found part given = result_err given ≡ Some (refusal plan_error.TokenProviderConfig)

abbrev pub of_base : CredentialsError → CredentialsError
of_base e = ProviderError (cause.Base e)

-- The part of a plan is that of its base, which found all the values, and then that of its roles. The answer is an error exactly
-- where the base gives one, or else an exchange for a role does, and tells of that one.
pub record PlanCause (s : Setting) (p : ProfileChain) (found : List Value) (part : List Pair) (out : Answer) : Type 0 where
  pub base_part : List Pair
  pub role_part : List Pair
  pub parts : part ≡ base_part ++ role_part
  pub given : Answer
  pub base_reads : Reads (base_tree s p.base) found base_part given
  pub base_cause : BaseCause s p.base found base_part given
  pub cause : result_err out ≡ option_or (option_map of_base (result_err given)) (why_roles role_part)

abbrev pub PlannedCause : Setting → Planned → List Value → List Pair → Answer → Type 0
PlannedCause s (Err e) found part out = (found ≡ []) × (part ≡ []) × (result_err out ≡ Some (refusal e))
PlannedCause s (Ok p) found part out = PlanCause s p found part out

-- Why the selected profile gives no credentials: there is no plan, and nothing is asked; or its base
-- gives none, or a role.
abbrev pub ProfileCause : Setting → List Value → List Pair → Answer → Type 0
ProfileCause s found part out = PlannedCause s (plan s.configuration (names_of s.sources)) found part out
