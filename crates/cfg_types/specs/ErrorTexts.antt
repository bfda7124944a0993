-- The texts of the errors, as they are shown to a user.
use Rattle.std.specs.Prelude.{ℕ, List, ◌++◌, Option, Some, None, codes}
use Rattle.std.specs.Str.{encode_utf8_all}
use Rattle.std.specs.Fmt.{decimal, debug_str, debug_list, ◌++?◌}
use Rattle.cfg_types.specs.Field.{field_name}
use Rattle.cfg_types.specs.Metadata.{error_reply}
use Rattle.cfg_types.specs.declared.errors.profile.ProfileFileError.{ProfileFileError}
use Rattle.cfg_types.specs.declared.errors.profile.ProfileFileError.TheVariants as profile
use Rattle.cfg_types.specs.declared.errors.container.InvalidFullUriError.{InvalidFullUriError}
use Rattle.cfg_types.specs.declared.errors.container.InvalidFullUriError.TheVariants as uri
use Rattle.cfg_types.specs.declared.errors.imds.InvalidEndpointMode.{InvalidEndpointMode}
use Rattle.cfg_types.specs.declared.errors.imds.InvalidEndpointMode.TheVariants as mode
use Rattle.cfg_types.specs.declared.errors.imds.BuildError.{BuildError}
use Rattle.cfg_types.specs.declared.errors.imds.BuildError.TheVariants as build
use Rattle.cfg_types.specs.declared.errors.imds.TokenError.{TokenError}
use Rattle.cfg_types.specs.declared.errors.imds.TokenError.TheVariants as token
use Rattle.cfg_types.specs.declared.errors.imds.ImdsError.{ImdsError}
use Rattle.cfg_types.specs.declared.errors.imds.ImdsError.TheVariants as imds
use Rattle.cfg_types.specs.declared.errors.sso.IoStep.TheVariants as step
use Rattle.cfg_types.specs.declared.errors.sso.CachedSsoTokenError.{CachedSsoTokenError}
use Rattle.cfg_types.specs.declared.errors.sso.CachedSsoTokenError.TheVariants as cached
use Rattle.cfg_types.specs.declared.errors.sso.SsoTokenProviderError.{SsoTokenProviderError}
use Rattle.cfg_types.specs.declared.errors.sso.SsoTokenProviderError.TheVariants as sso
use Rattle.cfg_types.specs.declared.errors.login.LoginTokenError.{LoginTokenError}
use Rattle.cfg_types.specs.declared.errors.login.LoginTokenError.TheVariants as login

-- why a container's credentials are not fetched from an address
abbrev pub full_uri_text : InvalidFullUriError → List ℕ
full_uri_text uri.InvalidUri = codes "URI was invalid"
full_uri_text uri.NoDnsResolver = codes "no DNS resolver was provided. Enable `rt-tokio` or provide a `dns` resolver to the builder."
full_uri_text uri.MissingHost = codes "URI did not specify a host"
full_uri_text uri.DisallowedIP = codes "URI did not refer to an allowed IP address"
full_uri_text uri.DnsLookupFailed = codes "failed to perform DNS lookup while validating URI"
full_uri_text uri.OutOfMemory = codes "out of memory"

-- a text that names no mode of the metadata service's address
abbrev pub endpoint_mode_text : InvalidEndpointMode → List ℕ
endpoint_mode_text (mode.Mode m) = codes "`" ++ (encode_utf8_all m ++ codes "` is not a valid endpoint mode. Valid values are [`IPv4`, `IPv6`]")
endpoint_mode_text mode.OutOfMemory = codes "out of memory"

-- why a client of the metadata service is not built
abbrev pub build_text : BuildError → List ℕ
build_text (build.InvalidEndpointMode m) = codes "failed to build IMDS client: invalid endpoint mode"
build_text (build.InvalidEndpointUri u) = codes "failed to build IMDS client: invalid URI"
build_text build.OutOfMemory = codes "out of memory"

-- why a reply of the metadata service gives no session token
abbrev pub session_token_text : TokenError → List ℕ
session_token_text token.InvalidToken = codes "invalid token"
session_token_text token.NoTtl = codes "token response did not contain a TTL header"
session_token_text token.InvalidTtl = codes "the returned TTL was invalid"
session_token_text token.InvalidParameters = codes "invalid request parameters. This indicates an SDK bug."
session_token_text token.Forbidden = codes "request forbidden: IMDS is disabled or the caller has insufficient permissions."

-- why the metadata service gives nothing
abbrev pub imds_text : ImdsError → List ℕ
imds_text (imds.FailedToLoadToken e) = codes "failed to load IMDS session token"
imds_text (imds.ErrorResponse e) = codes "error response from IMDS (code: " ++ (decimal (error_reply e).status ++ codes ")")
imds_text (imds.IoError k) = codes "an IO error occurred communicating with IMDS"
imds_text (imds.Unexpected c) = codes "an unexpected error occurred communicating with IMDS"
imds_text imds.OutOfMemory = codes "out of memory"

-- why the file of a cached token gives no token, or takes none
abbrev pub cached_token_text : CachedSsoTokenError → List ℕ
cached_token_text cached.FailedToFormatDateTime = codes "failed to format date time"
cached_token_text (cached.InvalidField f) = codes "invalid value for the `" ++ (field_name f ++ codes "` field in the cached SSO token file")
cached_token_text (cached.IoError step.Read path) = codes "failed to read `" ++ (encode_utf8_all path ++ codes "`")
cached_token_text (cached.IoError step.Write path) = codes "failed to write `" ++ (encode_utf8_all path ++ codes "`")
cached_token_text cached.JsonError = codes "invalid JSON in cached SSO token file"
cached_token_text (cached.MissingField f) = codes "missing field `" ++ (field_name f ++ codes "` in cached SSO token file")
cached_token_text cached.NoHomeDirectory = codes "couldn't resolve a home directory"
cached_token_text (cached.Other text) = encode_utf8_all text
cached_token_text cached.OutOfMemory = codes "out of memory"

-- why there is no token of IAM Identity Center
abbrev pub sso_token_text : SsoTokenProviderError → List ℕ
sso_token_text (sso.BadExpirationTimeFromSsoOidc seconds) = codes "SSO OIDC responded with a negative expiration duration"
sso_token_text (sso.FailedToLoadToken e) = codes "failed to load the cached SSO token"
sso_token_text sso.ExpiredToken = codes "the SSO token has expired and cannot be refreshed"
sso_token_text sso.OutOfMemory = codes "out of memory"

-- why there is no sign-in token
abbrev pub login_token_text : LoginTokenError → List ℕ
login_token_text login.FailedToFormatDateTime = codes "failed to format date time"
login_token_text (login.IoError step.Read path) = codes "failed to read `" ++ (encode_utf8_all path ++ codes "`")
login_token_text (login.IoError step.Write path) = codes "failed to write `" ++ (encode_utf8_all path ++ codes "`")
login_token_text (login.JsonError fault) = codes "invalid JSON in cached Login token file"
login_token_text (login.MissingField f) = codes "missing field `" ++ (field_name f ++ codes "` in cached Login token file")
login_token_text login.NoHomeDirectory = codes "couldn't resolve a home directory"
login_token_text login.ExpiredToken = codes "cached Login token is expired"
login_token_text (login.RefreshFailed None) = codes "failed to refresh cached Login token"
login_token_text (login.RefreshFailed (Some message)) = codes "failed to refresh cached Login token: " ++ encode_utf8_all message
login_token_text (login.Other text) = codes "failed to load cached Login token: " ++ encode_utf8_all text
login_token_text login.OutOfMemory = codes "out of memory"

-- the list of some texts, each in quotation marks. The Debug text of a character beyond ASCII is std's.
abbrev pub quoted_list : List (List ℕ) → Option (List ℕ)
quoted_list texts = debug_list (λ text. debug_str (encode_utf8_all text)) texts

-- the profiles of a path, and the one that is loaded again
abbrev pub loop_text : List (List ℕ) → List ℕ → Option (List ℕ)
loop_text path next =
    Some (codes "profile formed an infinite loop. first we loaded ") ++? (quoted_list path ++? Some (codes ", then attempted to reload " ++ encode_utf8_all next))

-- a name between two texts, and a message behind them
abbrev pub name_and_message : List ℕ → List ℕ → List ℕ → List ℕ → List ℕ
name_and_message before name between message = before ++ (encode_utf8_all name ++ (between ++ encode_utf8_all message))

-- the session that a profile names is not there
abbrev pub missing_session_text : List ℕ → List ℕ → List ℕ
missing_session_text session profile = codes "sso-session named `" ++ (encode_utf8_all session ++ (codes "` (referenced by profile `" ++ (encode_utf8_all profile ++ codes "`) was not found")))

-- what a profile asks for that is not built, and more words where there are some
abbrev pub feature_text : List ℕ → Option (List ℕ) → List ℕ
feature_text feature None = codes "This behavior requires following cargo feature(s) enabled: " ++ (encode_utf8_all feature ++ codes ". ")
feature_text feature (Some m) = name_and_message (codes "This behavior requires following cargo feature(s) enabled: ") feature (codes ". ") m

-- why a profile gives no credentials
abbrev pub profile_text : ProfileFileError → Option (List ℕ)
profile_text (profile.InvalidProfile text) = Some (codes "invalid profile: " ++ encode_utf8_all text)
profile_text profile.NoProfilesDefined = Some (codes "No profiles were defined")
profile_text (profile.ProfileDidNotContainCredentials p) = Some (codes "profile `" ++ (encode_utf8_all p ++ codes "` did not contain credential information"))
profile_text (profile.CredentialLoop path next) = loop_text path next
profile_text (profile.MissingCredentialSource p m) = Some (name_and_message (codes "missing credential source in `") p (codes "`: ") m)
profile_text (profile.InvalidCredentialSource p m) = Some (name_and_message (codes "invalid credential source in `") p (codes "`: ") m)
profile_text (profile.MissingProfile p m) = Some (name_and_message (codes "profile `") p (codes "` was not defined: ") m)
profile_text (profile.UnknownProvider name) = Some (codes "profile referenced `" ++ (encode_utf8_all name ++ codes "` provider but that provider is not supported"))
profile_text (profile.FeatureNotEnabled feature m) = Some (feature_text feature m)
profile_text (profile.MissingSsoSession p session) = Some (missing_session_text session p)
profile_text (profile.InvalidSsoConfig p m) = Some (name_and_message (codes "profile `") p (codes "` has invalid SSO config: ") m)
profile_text profile.TokenProviderConfig =
    Some (codes "selected profile will resolve an access token instead of credentials since it doesn't have `sso_account_id` and `sso_role_name` set. Specify both `sso_account_id` and `sso_role_name` to let this profile resolve credentials.")
profile_text profile.OutOfMemory = Some (codes "out of memory")
