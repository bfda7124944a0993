-- The rules of the tokens of IAM Identity Center.
use Rattle.std.specs.Prelude.{ℕ, List, [], Bool, true, false, ◌&&◌, ◌||◌, cond, ℤ, pos, ◌+ℤ◌, int_lt, Option, Some, None, option_map, Result, Ok, Err, codes, unwrap_or, is_some}
use Rattle.std.specs.Option.{option_or}
use Rattle.std.specs.Str.{encode_utf8_all}
use Rattle.cfg_base.specs.Moment.{Moment}
use Rattle.cfg_types.specs.Environment.{Variables, variable}
use Rattle.cfg_types.specs.declared.environment.VarError.{VarError}
use Rattle.cfg_types.specs.declared.settings.CallSettings.{CallSettings}
use Rattle.cfg_types.specs.declared.request.Request.{Request}
use Rattle.cfg_types.specs.declared.request.Request.TheVariants as request
use Rattle.cfg_types.specs.declared.reply.Reply.TheVariants as reply
use Rattle.cfg_types.specs.declared.reply.sso.TokenReply.{TokenReply}
use Rattle.cfg_types.specs.declared.errors.sso.IoStep.TheVariants as step
use Rattle.cfg_types.specs.declared.errors.sso.CachedSsoTokenError.{CachedSsoTokenError}
use Rattle.cfg_types.specs.declared.errors.sso.CachedSsoTokenError.TheVariants.{FailedToFormatDateTime, IoError, NoHomeDirectory}
use Rattle.cfg_types.specs.declared.errors.sso.SsoTokenProviderError.{SsoTokenProviderError}
use Rattle.cfg_types.specs.declared.errors.sso.SsoTokenProviderError.TheVariants.{BadExpirationTimeFromSsoOidc, FailedToLoadToken, ExpiredToken, OutOfMemory}
use Rattle.cfg_world.specs.declared.ask.Answer.{Answer}
use Rattle.cfg_world.specs.declared.ask.Answer.TheVariants as answer
use Rattle.cfg_token.specs.declared.token_key.TokenKey.{TokenKey}
use Rattle.cfg_token.specs.declared.token_key.TokenKey.TheVariants.{Sso, Login}
use Rattle.cfg_token.specs.declared.file_token.Renewal.{Renewal}
use Rattle.cfg_token.specs.declared.file_token.Renewal.TheVariants.{Granted, Passed, Refused}
use Rattle.cfg_token.specs.declared.file_token.Unsaved.{Unsaved}
use Rattle.cfg_token.specs.declared.file_token.Unsaved.TheVariants as unsaved
use Rattle.cfg_token.specs.declared.sso_token.CachedSsoToken.{CachedSsoToken}
use Rattle.cfg_token.specs.Moments.{is_before}
use Rattle.cfg_token.specs.Paths.{sso_path}
use Rattle.cfg_token.specs.SsoFile.{sso_file}
use Rattle.cfg_token.specs.SsoText.{sso_text}
use Rattle.cfg_token.specs.Rules.{Rules}

abbrev pub Given : Type 0 → Type 0
Given A = Result A SsoTokenProviderError

abbrev pub is_sso : TokenKey → Bool
is_sso (Sso session region url) = true
is_sso (Login session) = false

-- the end, where there is one, is after the reading
abbrev pub ends_after : Option Moment → Moment → Bool
ends_after None now = false
ends_after (Some end) now = is_before now end

-- the client's id and secret and a refresh token are there, and a registration that has not expired
abbrev pub is_renewable : CachedSsoToken → Moment → Bool
is_renewable token now = is_some token.client_id && (is_some token.client_secret && (is_some token.refresh_token && ends_after token.registration_expires_at now))

-- the file of a session below the home directory, where that is known
abbrev pub home_path : List ℕ → Result (List ℕ) VarError → Given (List ℕ)
home_path session (Err e) = Err (FailedToLoadToken NoHomeDirectory)
home_path session (Ok home) = Ok (sso_path (encode_utf8_all session) (encode_utf8_all home))

abbrev pub key_path : TokenKey → Variables → Given (List ℕ)
key_path (Sso session region url) env = home_path session (variable env (codes "HOME"))
key_path (Login session) env = Err (FailedToLoadToken NoHomeDirectory)

-- an error of the file is told as such
abbrev pub loaded : Result CachedSsoToken CachedSsoTokenError → Given CachedSsoToken
loaded (Ok token) = Ok token
loaded (Err e) = Err (FailedToLoadToken e)

-- the settings in the region of the session
abbrev pub in_region : TokenKey → CallSettings → CallSettings
in_region (Sso session region url) settings = record settings { region = Some region }
in_region (Login session) settings = settings

-- the request for a new token
abbrev pub refresh_call : TokenKey → CallSettings → CachedSsoToken → Request
refresh_call key settings token = request.CreateToken (record {
  client_id = unwrap_or token.client_id [];
  client_secret = unwrap_or token.client_secret [];
  refresh_token = unwrap_or token.refresh_token [];
  settings = in_region key settings;
})

-- when a lifetime ends that begins now: none where it is below a second, or ends past the end of time
abbrev pub end_of : Moment → ℤ → Option Moment
end_of now lifetime =
    cond (int_lt lifetime (pos 1) || int_lt (pos 9223372036854775807) (now.seconds +ℤ lifetime)) None (Some (record { seconds = now.seconds +ℤ lifetime; nanos = now.nanos }))

-- the region and the start URL of a session
abbrev pub region_of : TokenKey → Option (List ℕ)
region_of (Sso session region url) = Some region
region_of (Login session) = None

abbrev pub url_of : TokenKey → Option (List ℕ)
url_of (Sso session region url) = Some url
url_of (Login session) = None

-- A new token has the reply's tokens, or the old refresh token where there is no new one.
abbrev pub renewed : TokenKey → CachedSsoToken → TokenReply → List ℕ → Moment → CachedSsoToken
renewed key token given access end = record {
  access_token = access;
  expires_at = end;
  refresh_token = option_or given.refresh_token token.refresh_token;
  client_id = token.client_id;
  client_secret = token.client_secret;
  registration_expires_at = token.registration_expires_at;
  region = region_of key;
  start_url = url_of key;
}

abbrev pub renewed_to : TokenKey → CachedSsoToken → TokenReply → List ℕ → Option Moment → Renewal CachedSsoToken SsoTokenProviderError
renewed_to key token given access None = Refused (BadExpirationTimeFromSsoOidc given.expires_in) false
renewed_to key token given access (Some end) = Granted (renewed key token given access end)

abbrev pub by_access : TokenKey → CachedSsoToken → Moment → TokenReply → Option (List ℕ) → Renewal CachedSsoToken SsoTokenProviderError
by_access key token now given None = Passed
by_access key token now given (Some access) = renewed_to key token given access (end_of now given.expires_in)

-- A refresh that failed, was refused or has no access token is passed over.
abbrev pub sso_renewal : TokenKey → CachedSsoToken → Moment → Answer → Renewal CachedSsoToken SsoTokenProviderError
sso_renewal key token now (answer.Replied (reply.Token given)) = by_access key token now given given.access_token
sso_renewal key token now _ = Passed

-- A new token that is not saved is an error.
abbrev pub sso_unsaved : Unsaved → Option SsoTokenProviderError
sso_unsaved unsaved.NoText = Some (FailedToLoadToken FailedToFormatDateTime)
sso_unsaved (unsaved.NotWritten path) = Some (FailedToLoadToken (IoError step.Write path))

abbrev pub is_no_memory : SsoTokenProviderError → Bool
is_no_memory (BadExpirationTimeFromSsoOidc lifetime) = false
is_no_memory (FailedToLoadToken e) = false
is_no_memory ExpiredToken = false
is_no_memory OutOfMemory = true

abbrev pub sso_rules : Rules CachedSsoToken SsoTokenProviderError
sso_rules = record {
  expiry = λ token. token.expires_at;
  refreshable = is_renewable;
  is_kind = is_sso;
  path = key_path;
  reading = λ bytes. loaded (sso_file bytes);
  unread = λ path. FailedToLoadToken (IoError step.Read path);
  expired = ExpiredToken;
  request = refresh_call;
  renewal = sso_renewal;
  text = λ token. option_map encode_utf8_all (sso_text token);
  unsaved = sso_unsaved;
  is_memory = is_no_memory;
}
