-- Credentials of a sign-in session.
use Rattle.std.specs.Prelude.{ℕ, List, [], ◌∷◌, ◌++◌, Result, Ok, Err}
use Rattle.cfg_types.specs.Keys.{Keys}
use Rattle.cfg_types.specs.declared.credentials.AwsCredentialFeature.{AwsCredentialFeature}
use Rattle.cfg_types.specs.declared.credentials.AwsCredentialFeature.TheVariants.{CredentialsProfileLogin, CredentialsProfile}
use Rattle.cfg_types.specs.declared.errors.ConfigCause.TheVariants as config
use Rattle.cfg_types.specs.declared.errors.CredentialsError.{CredentialsError}
use Rattle.cfg_types.specs.declared.errors.CredentialsError.TheVariants.{InvalidConfiguration, ProviderError, Unhandled, OutOfMemory}
use Rattle.cfg_types.specs.declared.errors.ProviderCause.TheVariants as provider
use Rattle.cfg_types.specs.declared.errors.UnhandledCause.TheVariants as unhandled
use Rattle.cfg_types.specs.declared.errors.login.LoginTokenError.{LoginTokenError}
use Rattle.cfg_types.specs.declared.errors.login.LoginTokenError.TheVariants as login
use Rattle.cfg_profile.specs.Configuration.{Configuration}
use Rattle.cfg_profile.specs.Settings.{settings_of}
use Rattle.cfg_token.specs.declared.token_key.TokenKey.TheVariants.{Login}
use Rattle.cfg_login_token.specs.declared.login_token.LoginToken.{LoginToken}
use Rattle.cfg_login_token.specs.LoginTokens.{Given}
use Rattle.cfg_kept.specs.KeptInquiry.{KeptInquiry, Gives, onwards}
use Rattle.cfg_kept.specs.LoginHoldings.{login_holding}
use Rattle.cfg_login.specs.declared.asked_by.AskedBy.{AskedBy}
use Rattle.cfg_login.specs.declared.asked_by.AskedBy.TheVariants.{Profile, Caller}

-- credentials, or why there are none
abbrev pub Answer : Type 0
Answer = Result Keys CredentialsError

-- what the feature of the credentials tells
abbrev pub feature_of : AskedBy → AwsCredentialFeature
feature_of Profile = CredentialsProfileLogin
feature_of Caller = CredentialsProfile

-- a token's credentials, marked by who asked
abbrev pub marked : AskedBy → Keys → Keys
marked by keys = record keys { features = keys.features ++ feature_of by ∷ [] }

-- Why a section's error gives no credentials. A member that is not there, or a date that cannot be
-- written, is a fault of the configuration, and a refresh that failed one of the provider. No rule
-- allows for the others.
abbrev pub section_error : LoginTokenError → CredentialsError
section_error login.FailedToFormatDateTime = InvalidConfiguration (config.LoginToken login.FailedToFormatDateTime)
section_error (login.MissingField f) = InvalidConfiguration (config.LoginToken (login.MissingField f))
section_error (login.RefreshFailed message) = ProviderError (provider.LoginToken (login.RefreshFailed message))
section_error login.OutOfMemory = OutOfMemory
section_error e = Unhandled (unhandled.LoginToken e)

-- the credentials of the token that a section gave, or why it gave none
unfoldable pub credentials_in : AskedBy → Given LoginToken → Answer
credentials_in by (Ok token) = Ok (marked by token.access_token)
credentials_in by (Err e) = Err (section_error e)

-- one section of the token of this session, on what is kept of it
abbrev pub section_of : Configuration → List ℕ → KeptInquiry (Given LoginToken)
section_of conf session = login_holding (Login session) conf.environment (settings_of conf)

-- one section, and what it gives
unfoldable pub sign_in_credentials : Configuration → List ℕ → AskedBy → KeptInquiry Answer
sign_in_credentials conf session by = onwards (section_of conf session) (λ given. Gives (credentials_in by given))
