-- An error without what a reply gave, but for its status, its code and message, and its refusal.
use Rattle.std.specs.Prelude.{[]}
use Rattle.cfg_types.specs.declared.errors.UnhandledCause.{UnhandledCause}
use Rattle.cfg_types.specs.declared.errors.UnhandledCause.TheVariants as unhandled
use Rattle.cfg_types.specs.declared.errors.imds.ErrorResponse.{ErrorResponse}
use Rattle.cfg_types.specs.declared.errors.imds.ImdsError.{ImdsError}
use Rattle.cfg_types.specs.declared.errors.imds.ImdsError.TheVariants as imds
use Rattle.cfg_types.specs.declared.errors.imds.UnexpectedCause.TheVariants as unexpected
use Rattle.cfg_types.specs.declared.errors.NotLoadedCause.{NotLoadedCause, roll-NotLoadedCause}
use Rattle.cfg_types.specs.declared.errors.ProviderCause.{ProviderCause, roll-ProviderCause}
use Rattle.cfg_types.specs.declared.errors.CredentialsError.{CredentialsError, roll-CredentialsError, fold-CredentialsError}
use Rattle.cfg_types.specs.declared.errors.CredentialsError.TheOpen.{CredentialsError-F, ProviderCause-F}

-- of a reply its status alone
abbrev pub blank_response : ErrorResponse → ErrorResponse
blank_response e = record { reply = record e.reply { headers = []; body = [] } }

-- without a reply's headers and body, and without a path, which may be of a reply
abbrev pub blank_imds : ImdsError → ImdsError
blank_imds (imds.ErrorResponse e) = imds.ErrorResponse (blank_response e)
blank_imds (imds.Unexpected (unexpected.Path path)) = imds.Unexpected (unexpected.Path [])
blank_imds e = e

-- without a reply's ARN
abbrev pub blank_unhandled : UnhandledCause → UnhandledCause
blank_unhandled (unhandled.StsArn arn) = unhandled.StsArn []
blank_unhandled cause = cause

abbrev pub blank_provider_level : ProviderCause-F CredentialsError NotLoadedCause ProviderCause → ProviderCause
blank_provider_level (ProviderCause-F.Metadata e) = roll-ProviderCause (ProviderCause-F.Metadata (blank_imds e))
blank_provider_level level = roll-ProviderCause level

abbrev pub blank_error_level : CredentialsError-F CredentialsError NotLoadedCause ProviderCause → CredentialsError
blank_error_level (CredentialsError-F.Unhandled cause) = roll-CredentialsError (CredentialsError-F.Unhandled (blank_unhandled cause))
blank_error_level level = roll-CredentialsError level

-- an error and all that it comes of, each without these
abbrev pub blanked : CredentialsError → CredentialsError
blanked = fold-CredentialsError CredentialsError NotLoadedCause ProviderCause blank_error_level roll-NotLoadedCause blank_provider_level
