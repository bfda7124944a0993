-- Which errors the members of the default chain give, and a call of it.
use Rattle.std.specs.Prelude.{◌≡◌, ◌⊎◌, List, true, false}
use Rattle.cfg_types.specs.declared.errors.ConfigCause.{ConfigCause}
use Rattle.cfg_types.specs.declared.errors.ConfigCause.TheVariants as config
use Rattle.cfg_types.specs.declared.errors.CredentialsError.{CredentialsError, out-CredentialsError}
use Rattle.cfg_types.specs.declared.errors.CredentialsError.TheOpen.{CredentialsError-F, NotLoadedCause-F, ProviderCause-F}
use Rattle.cfg_types.specs.declared.errors.NotLoadedCause.{NotLoadedCause, out-NotLoadedCause}
use Rattle.cfg_types.specs.declared.errors.ProviderAttempt.{ProviderAttempt}
use Rattle.cfg_types.specs.declared.errors.ProviderCause.{ProviderCause, out-ProviderCause}
use Rattle.cfg_types.specs.declared.errors.UnhandledCause.{UnhandledCause}
use Rattle.cfg_types.specs.declared.errors.UnhandledCause.TheVariants as unhandled
use Rattle.cfg_chain.specs.declared.member.Member.{Member}
use Rattle.cfg_chain.specs.declared.member.Member.TheVariants as member
use Rattle.cfg_meta.specs.CredentialsAnswers.{is_not_loaded, none_loaded}
use Rattle.cfg_chain.specs.profile.Plans.{is_not_loaded_error}

-- why a member was not loaded
abbrev pub IsNotLoadedOf : Member → NotLoadedCause-F CredentialsError NotLoadedCause ProviderCause → Type 0
IsNotLoadedOf member.Environment (NotLoadedCause-F.NotSet name) = Unit {0}
IsNotLoadedOf member.Profile (NotLoadedCause-F.Profile e) = is_not_loaded_error e ≡ true
IsNotLoadedOf member.WebIdentityToken (NotLoadedCause-F.NotSet name) = Unit {0}
IsNotLoadedOf member.EcsContainer NotLoadedCause-F.NotConfigured = Unit {0}
IsNotLoadedOf member.Ec2InstanceMetadata NotLoadedCause-F.MetadataDisabled = Unit {0}
IsNotLoadedOf member.Ec2InstanceMetadata NotLoadedCause-F.MetadataNoRole = Unit {0}
IsNotLoadedOf member.Ec2InstanceMetadata NotLoadedCause-F.MetadataUnreachable = Unit {0}
IsNotLoadedOf _ _ = ⊥

-- what is wrong with its configuration
abbrev pub IsInvalidOf : Member → ConfigCause → Type 0
IsInvalidOf member.Profile (config.Profile e) = is_not_loaded_error e ≡ false
IsInvalidOf member.EcsContainer config.AuthToken = Unit {0}
IsInvalidOf member.EcsContainer (config.RelativeUri text) = Unit {0}
IsInvalidOf member.EcsContainer (config.FullUri e text) = Unit {0}
IsInvalidOf member.Ec2InstanceMetadata (config.MetadataRole code message) = Unit {0}
IsInvalidOf _ _ = ⊥

-- what it failed at
abbrev pub IsFailureOf : Member → ProviderCause-F CredentialsError NotLoadedCause ProviderCause → Type 0
IsFailureOf member.Profile (ProviderCause-F.Base e) = Unit {0}
IsFailureOf member.Profile (ProviderCause-F.Role e) = Unit {0}
IsFailureOf member.WebIdentityToken (ProviderCause-F.File path) = Unit {0}
IsFailureOf member.WebIdentityToken (ProviderCause-F.Sent kind) = Unit {0}
IsFailureOf member.WebIdentityToken (ProviderCause-F.Refused refusal) = Unit {0}
IsFailureOf member.EcsContainer (ProviderCause-F.File path) = Unit {0}
IsFailureOf member.EcsContainer (ProviderCause-F.Status status) = Unit {0}
IsFailureOf member.EcsContainer (ProviderCause-F.ErrorDocument code message) = Unit {0}
IsFailureOf member.Ec2InstanceMetadata (ProviderCause-F.ErrorDocument code message) = Unit {0}
IsFailureOf member.Ec2InstanceMetadata (ProviderCause-F.Metadata e) = Unit {0}
IsFailureOf _ _ = ⊥

-- what no rule of it allows for
abbrev pub IsUnhandledOf : Member → UnhandledCause → Type 0
IsUnhandledOf member.Environment (unhandled.NotUnicode name) = Unit {0}
IsUnhandledOf member.WebIdentityToken unhandled.NotUtf8 = Unit {0}
IsUnhandledOf member.WebIdentityToken unhandled.StsNoCredentials = Unit {0}
IsUnhandledOf member.WebIdentityToken (unhandled.StsArn arn) = Unit {0}
IsUnhandledOf member.EcsContainer unhandled.NotUtf8 = Unit {0}
IsUnhandledOf member.EcsContainer (unhandled.NoDocument e) = Unit {0}
IsUnhandledOf member.EcsContainer (unhandled.Sent kind) = Unit {0}
IsUnhandledOf member.Ec2InstanceMetadata (unhandled.NoDocument e) = Unit {0}
IsUnhandledOf _ _ = ⊥

abbrev pub IsErrorLevel : Member → CredentialsError-F CredentialsError NotLoadedCause ProviderCause → Type 0
IsErrorLevel m (CredentialsError-F.CredentialsNotLoaded cause) = IsNotLoadedOf m (out-NotLoadedCause cause)
IsErrorLevel m (CredentialsError-F.InvalidConfiguration cause) = IsInvalidOf m cause
IsErrorLevel m (CredentialsError-F.ProviderError cause) = IsFailureOf m (out-ProviderCause cause)
IsErrorLevel m (CredentialsError-F.Unhandled cause) = IsUnhandledOf m cause
IsErrorLevel m _ = ⊥

-- The errors of a member, by the cause that stands outermost: a line for each. What stands in the errors of a
-- profile's base and of its roles is not looked at.
abbrev pub IsErrorOf : Member → CredentialsError → Type 0
IsErrorOf m e = IsErrorLevel m (out-CredentialsError e)

-- The errors of a call, by the cause that stands outermost: that none of the members was loaded, or an error of
-- one of them that says more than that it was not loaded.
abbrev pub IsErrorOfCall : CredentialsError → Type 0
IsErrorOfCall e =
    ((attempts : List (ProviderAttempt CredentialsError)) × (e ≡ none_loaded attempts))
    ⊎ ((m : Member) × (is_not_loaded e ≡ false) × IsErrorOf m e)
