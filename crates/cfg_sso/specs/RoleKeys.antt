-- One request for the credentials of a role.
use Rattle.std.specs.Prelude.{ℕ, ◌*◌, ℤ, pos, unsigned_abs, List, [], ◌∷◌, ◌++◌, Option, Some, None, Result, Ok, Err, codes}
use Rattle.std.specs.Int.{int_div_euclid, int_rem_euclid}
use Rattle.cfg_base.specs.Moment.{Moment}
use Rattle.cfg_types.specs.Keys.{Keys, bare_keys}
use Rattle.cfg_types.specs.declared.credentials.AwsCredentialFeature.TheVariants.{CredentialsSso}
use Rattle.cfg_types.specs.declared.errors.CredentialsError.{CredentialsError}
use Rattle.cfg_types.specs.declared.errors.CredentialsError.TheVariants.{ProviderError, Unhandled}
use Rattle.cfg_types.specs.declared.errors.ProviderCause.TheVariants as cause
use Rattle.cfg_types.specs.declared.errors.UnhandledCause.{UnhandledCause}
use Rattle.cfg_types.specs.declared.errors.UnhandledCause.TheVariants.{SsoNoCredentials, SsoNoAccessKey, SsoNoSecretKey}
use Rattle.cfg_types.specs.declared.reply.sso.RoleReply.{RoleReply}
use Rattle.cfg_types.specs.declared.reply.sso.RoleCredentials.{RoleCredentials}
use Rattle.cfg_types.specs.declared.request.sso.GetRoleCredentials.{GetRoleCredentials}
use Rattle.cfg_types.specs.declared.settings.CallSettings.{CallSettings}
use Rattle.cfg_world.specs.declared.leaves.NotGranted.{NotGranted}
use Rattle.cfg_world.specs.declared.leaves.NotGranted.TheVariants.{Failed, Refused}
use Rattle.cfg_world.specs.Inquiry.{Inquiry, Done, after}
use Rattle.cfg_world.specs.Leaves.{getting_role_credentials}
use Rattle.cfg_profile.specs.Configuration.{Configuration}
use Rattle.cfg_profile.specs.Settings.{settings_of}
use Rattle.cfg_token.specs.declared.sso_token.CachedSsoToken.{CachedSsoToken}
use Rattle.cfg_sso.specs.declared.config.SsoProviderConfig.{SsoProviderConfig}

-- credentials, or why there are none
abbrev pub Answer : Type 0
Answer = Result Keys CredentialsError

-- The moment so many milliseconds after the epoch. Its seconds are cut downwards, also before the epoch.
abbrev pub moment_at : ℤ → Moment
moment_at millis = record { seconds = int_div_euclid millis (pos 1000); nanos = unsigned_abs (int_rem_euclid millis (pos 1000)) * 1000000 }

-- credentials of IAM Identity Center, marked as such
abbrev pub by_sign_on : Keys → Keys
by_sign_on keys = record keys { features = keys.features ++ CredentialsSso ∷ [] }

abbrev pub keys_with : List ℕ → RoleCredentials → Option (List ℕ) → Option (List ℕ) → Result Keys UnhandledCause
keys_with account given None secret = Err SsoNoAccessKey
keys_with account given (Some id) None = Err SsoNoSecretKey
keys_with account given (Some id) (Some secret) = Ok (by_sign_on (record (bare_keys id secret (codes "SSO")) {
  session_token = given.session_token;
  expiry = Some (moment_at given.expiration_ms);
  account_id = Some account;
}))

abbrev pub keys_in : List ℕ → Option RoleCredentials → Result Keys UnhandledCause
keys_in account None = Err SsoNoCredentials
keys_in account (Some given) = keys_with account given given.access_key_id given.secret_access_key

-- The credentials of a reply, for this account. A reply without credentials, or credentials without an
-- id or a secret of their access key, are refused.
unfoldable pub role_keys : List ℕ → RoleReply → Result Keys UnhandledCause
role_keys account reply = keys_in account reply.credentials

abbrev pub or_unhandled : Result Keys UnhandledCause → Answer
or_unhandled (Ok keys) = Ok keys
or_unhandled (Err reason) = Err (Unhandled reason)

-- what an answer gives, or why it gives nothing
unfoldable pub role_answer : List ℕ → Result RoleReply NotGranted → Answer
role_answer account (Err (Failed kind)) = Err (ProviderError (cause.Sent kind))
role_answer account (Err (Refused refusal)) = Err (ProviderError (cause.Refused refusal))
role_answer account (Ok reply) = or_unhandled (role_keys account reply)

-- the settings of the configuration's calls, in the region of IAM Identity Center
abbrev pub settings_in : Configuration → List ℕ → CallSettings
settings_in conf region = record (settings_of conf) { region = Some region }

-- the request for the credentials of the role, with this token
abbrev pub request : Configuration → SsoProviderConfig → CachedSsoToken → GetRoleCredentials
request conf sso token = record {
  role_name = sso.role_name;
  account_id = sso.account_id;
  access_token = token.access_token;
  settings = settings_in conf sso.region;
}

-- one request, and what its answer gives
unfoldable pub exchange : Configuration → SsoProviderConfig → CachedSsoToken → Inquiry Answer
exchange conf sso token = after (getting_role_credentials (request conf sso token)) (λ answer. Done (role_answer sso.account_id answer))
