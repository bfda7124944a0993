-- The first credentials of a profile.
use Rattle.std.specs.Prelude.{◌≡◌, ℕ, List, true, Option, Some, None, IsSome, Ok, Err, codes, if◌then◌else◌}
use Rattle.cfg_types.specs.declared.errors.CredentialsError.TheVariants.{ProviderError}
use Rattle.cfg_types.specs.declared.errors.ProfileFileError.TheVariants as plan_error
use Rattle.cfg_types.specs.declared.errors.ProviderCause.TheVariants as cause
use Rattle.cfg_world.specs.Inquiry.{Inquiry}
use Rattle.cfg_kept.specs.KeptInquiry.{KeptInquiry, Gives, lift, onwards}
use Rattle.cfg_imds.specs.Clients.{ClientRules}
use Rattle.cfg_kept.specs.declared.place.Place.{Place}
use Rattle.cfg_imds_credentials.specs.Metadata.{metadata}
use Rattle.cfg_exchange.specs.declared.container.ContainerUri.{ContainerUri}
use Rattle.cfg_exchange.specs.Containers.{container}
use Rattle.cfg_profile.specs.Configuration.{Configuration}
use Rattle.cfg_profile.specs.declared.chain.BaseProvider.{BaseProvider}
use Rattle.cfg_profile.specs.declared.chain.BaseProvider.TheVariants as base
use Rattle.cfg_profile.specs.NamedSources.{is_alike, is_built_in}
use Rattle.cfg_providers.specs.CustomSources.{Answer, last_named}
use Rattle.cfg_providers.specs.EnvironmentKeys.{by_environment}
use Rattle.cfg_providers.specs.Processes.{credential_process}
use Rattle.cfg_providers.specs.WebIdentities.{no_policies, assumes_by_web_identity}
use Rattle.cfg_sso.specs.declared.config.SsoProviderConfig.{SsoProviderConfig}
use Rattle.cfg_login.specs.declared.asked_by.AskedBy.TheVariants as by
use Rattle.cfg_login.specs.SignIns.{sign_in_credentials}
use Rattle.cfg_sso.specs.SsoCredentials.{sso_credentials}
use Rattle.cfg_chain.specs.Settings.{Setting, container_settings, metadata_setting, named_metadata}
use Rattle.cfg_chain.specs.profile.Plans.{refusal}

-- a container, at this address
abbrev pub by_container : Configuration → ContainerUri → Inquiry Answer
by_container conf place = container conf.environment (container_settings conf) place

-- the role that the metadata service lists, by this client
abbrev pub metadata_by : Configuration → ClientRules → Place → KeptInquiry Answer
metadata_by conf client place = metadata (metadata_setting conf client place)

-- what is answered in place of a source that nobody has; no plan names one
unfoldable pub unknown_source : List ℕ → Answer
unknown_source name = Err (refusal (plan_error.UnknownProvider name))

-- what is answered in place of IAM Identity Center without an account or a role; no plan has one
unfoldable pub without_role : Answer
without_role = Err (refusal plan_error.TokenProviderConfig)

-- The sources that are always there, by their names in any ASCII case.
unfoldable pub built_in_source : Setting → List ℕ → KeptInquiry Answer
built_in_source s name =
    if is_alike name (codes "Environment") then lift (by_environment s.configuration.environment)
    else (if is_alike name (codes "EcsContainer") then lift (by_container s.configuration s.container)
    else (if is_alike name (codes "Ec2InstanceMetadata") then metadata (named_metadata s) else Gives (unknown_source name)))

abbrev pub source_or : KeptInquiry Answer → Option Answer → KeptInquiry Answer
source_or built_in (Some answer) = Gives answer
source_or built_in None = built_in

-- the source of this name: the last of the caller's own that has it, else the one that is always there
unfoldable pub named_source : Setting → List ℕ → KeptInquiry Answer
named_source s name = source_or (built_in_source s name) (last_named name s.sources)

-- what names the sessions of a profile's web identity begin with
abbrev pub profile_session : List ℕ
profile_session = codes "web-identity-token-profile"

-- the role of an account that a profile asks IAM Identity Center for
abbrev pub signed_on : Option (List ℕ) → List ℕ → List ℕ → List ℕ → List ℕ → SsoProviderConfig
signed_on session region url account role = record { account_id = account; role_name = role; region = region; start_url = url; session_name = session }

-- what a base asks, finds and leaves, and what it gives
unfoldable pub base_tree : Setting → BaseProvider → KeptInquiry Answer
base_tree s (base.AccessKey keys) = Gives (Ok keys)
base_tree s (base.NamedSource name) = named_source s name
base_tree s (base.WebIdentityTokenRole arn file session) = lift (assumes_by_web_identity s.configuration profile_session (record { web_identity_token_file = file; role_arn = arn; session_name = session }) no_policies)
base_tree s (base.CredentialProcess command account) = lift (credential_process command account)
base_tree s (base.Sso session region url (Some account) (Some role)) = sso_credentials s.configuration (signed_on session region url account role)
base_tree s (base.LoginSession session) = sign_in_credentials s.configuration session by.Profile
base_tree s _ = Gives without_role

-- an error of a base, whatever it is, is told as such
unfoldable pub in_base : Answer → Answer
in_base (Ok keys) = Ok keys
in_base (Err e) = Err (ProviderError (cause.Base e))

-- the first credentials of a plan
unfoldable pub based : Setting → BaseProvider → KeptInquiry Answer
based s b = onwards (base_tree s b) (λ given. Gives (in_base given))

-- ---- the bases of plans

-- a source of the caller's own, or one that is always there
abbrev pub IsThere : List ℕ → Option Answer → Type 0
IsThere name (Some answer) = Unit {0}
IsThere name None = is_built_in name ≡ true

-- A base that can be asked: a source that is there, IAM Identity Center for a role of an account, and any
-- other.
abbrev pub CanBeAsked : Setting → BaseProvider → Type 0
CanBeAsked s (base.NamedSource name) = IsThere name (last_named name s.sources)
CanBeAsked s (base.Sso session region url account role) = IsSome account × IsSome role
CanBeAsked s _ = Unit {0}
