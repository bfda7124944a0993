-- The rules of the tokens of sign-in sessions.
use Rattle.std.specs.Prelude.{ℕ, List, [], Bool, true, false, negsuc, Option, Some, None, option_map, Result, Ok, Err, codes, unwrap_or}
use Rattle.std.specs.Str.{encode_utf8_all}
use Rattle.cfg_base.specs.Moment.{Moment}
use Rattle.cfg_base.specs.Text.{characters}
use Rattle.cfg_types.specs.Keys.{Keys}
use Rattle.cfg_types.specs.Environment.{Variables, variable}
use Rattle.cfg_types.specs.declared.settings.CallSettings.{CallSettings}
use Rattle.cfg_types.specs.declared.request.Request.{Request}
use Rattle.cfg_types.specs.declared.request.Request.TheVariants as request
use Rattle.cfg_types.specs.declared.reply.Reply.TheVariants as reply
use Rattle.cfg_types.specs.declared.reply.RefusalKind.{RefusalKind}
use Rattle.cfg_types.specs.declared.reply.RefusalKind.TheVariants as kind
use Rattle.cfg_types.specs.declared.reply.sign_in.SignInToken.{SignInToken}
use Rattle.cfg_types.specs.declared.errors.sso.IoStep.TheVariants as step
use Rattle.cfg_types.specs.declared.errors.login.LoginTokenError.{LoginTokenError}
use Rattle.cfg_types.specs.declared.errors.login.LoginTokenError.TheVariants.{FailedToFormatDateTime, IoError, JsonError as Json, MissingField, NoHomeDirectory, ExpiredToken, RefreshFailed, Other, OutOfMemory}
use Rattle.cfg_world.specs.declared.ask.Answer.{Answer}
use Rattle.cfg_world.specs.declared.ask.Answer.TheVariants as answer
use Rattle.cfg_token.specs.declared.token_key.TokenKey.{TokenKey}
use Rattle.cfg_token.specs.declared.token_key.TokenKey.TheVariants.{Sso, Login}
use Rattle.cfg_token.specs.declared.file_token.Renewal.{Renewal}
use Rattle.cfg_token.specs.declared.file_token.Renewal.TheVariants.{Granted, Refused}
use Rattle.cfg_token.specs.declared.file_token.Unsaved.{Unsaved}
use Rattle.cfg_token.specs.SsoTokens.{end_of}
use Rattle.cfg_token.specs.Rules.{Rules}
use Rattle.cfg_login_token.specs.declared.login_token.LoginToken.{LoginToken}
use Rattle.cfg_login_token.specs.Paths.{login_path, cache_directory}
use Rattle.cfg_login_token.specs.LoginFile.{login_file}
use Rattle.cfg_login_token.specs.LoginText.{login_text}

abbrev pub Given : Type 0 → Type 0
Given A = Result A LoginTokenError

abbrev pub is_login : TokenKey → Bool
is_login (Sso session region url) = false
is_login (Login session) = true

-- the first moment of all, before which no clock reads
abbrev pub first_moment : Moment
first_moment = record { seconds = negsuc 9223372036854775807; nanos = 0 }

-- when a token ends: where its credentials have no end, it ended at the first moment
abbrev pub end_in : LoginToken → Moment
end_in token = unwrap_or token.access_token.expiry first_moment

-- the file of a session in the cache, where that is known
abbrev pub cache_path : List ℕ → Given (List ℕ) → Given (List ℕ)
cache_path session (Err e) = Err e
cache_path session (Ok cache) = Ok (login_path cache (encode_utf8_all session))

abbrev pub key_path : TokenKey → Variables → Given (List ℕ)
key_path (Sso session region url) env = Err NoHomeDirectory
key_path (Login session) env = cache_path session (cache_directory (variable env (codes "AWS_LOGIN_CACHE_DIRECTORY")) (variable env (codes "HOME")))

-- the request for a new token
abbrev pub refresh_call : CallSettings → LoginToken → Request
refresh_call settings token = request.CreateOAuth2Token (record {
  client_id = token.client_id;
  refresh_token = token.refresh_token;
  dpop_key = token.dpop_key;
  settings = settings;
})

-- A new token has the reply's keys and refresh token, and all else of the old one.
abbrev pub renewed_keys : Keys → SignInToken → Moment → Keys
renewed_keys keys given end = record {
  access_key_id = given.access_key_id;
  secret_access_key = given.secret_access_key;
  session_token = Some given.session_token;
  expiry = Some end;
  account_id = keys.account_id;
  provider_name = codes "Login";
  features = [];
}

abbrev pub renewed : LoginToken → SignInToken → Moment → LoginToken
renewed token given end = record {
  access_token = renewed_keys token.access_token given end;
  token_type = token.token_type;
  identity_token = token.identity_token;
  refresh_token = given.refresh_token;
  client_id = token.client_id;
  dpop_key = token.dpop_key;
}

-- what a refusal says to the user, in bytes and in characters
abbrev pub refusal_words : RefusalKind → Option (List ℕ)
refusal_words kind.InsufficientPermissions = Some (codes "Unable to refresh credentials due to insufficient permissions. You may be missing permission for the 'CreateOAuth2Token' action.")
refusal_words kind.TokenExpired = Some (codes "Your session has expired. Please reauthenticate.")
refusal_words kind.UserCredentialsChanged = Some (codes "Unable to refresh credentials because of a change in your password. Please reauthenticate with your new password.")
refusal_words kind.RegionDisabled = None
refusal_words kind.MalformedPolicyDocument = None
refusal_words kind.Other = None

abbrev pub refusal_message : RefusalKind → Option (List ℕ)
refusal_message kind = option_map characters (refusal_words kind)

-- A refresh that fails is an error, and the attempt is noted.
abbrev pub fails : Option (List ℕ) → Renewal LoginToken LoginTokenError
fails message = Refused (RefreshFailed message) true

abbrev pub renewed_to : LoginToken → SignInToken → Option Moment → Renewal LoginToken LoginTokenError
renewed_to token given None = fails None
renewed_to token given (Some end) = Granted (renewed token given end)

abbrev pub by_token : LoginToken → Moment → Option SignInToken → Renewal LoginToken LoginTokenError
by_token token now None = fails None
by_token token now (Some given) = renewed_to token given (end_of now given.expires_in)

abbrev pub login_renewal : LoginToken → Moment → Answer → Renewal LoginToken LoginTokenError
login_renewal token now (answer.Replied (reply.SignIn given)) = by_token token now given.token
login_renewal token now (answer.Replied (reply.Refused refusal)) = fails (refusal_message refusal.kind)
login_renewal token now _ = fails None

abbrev pub is_no_memory : LoginTokenError → Bool
is_no_memory FailedToFormatDateTime = false
is_no_memory (IoError what path) = false
is_no_memory (Json fault) = false
is_no_memory (MissingField f) = false
is_no_memory NoHomeDirectory = false
is_no_memory ExpiredToken = false
is_no_memory (RefreshFailed message) = false
is_no_memory (Other text) = false
is_no_memory OutOfMemory = true

-- A new token that is not saved is handed out.
abbrev pub login_unsaved : Unsaved → Option LoginTokenError
login_unsaved fault = None

abbrev pub login_rules : Rules LoginToken LoginTokenError
login_rules = record {
  expiry = end_in;
  refreshable = λ token now. true;
  is_kind = is_login;
  path = key_path;
  reading = login_file;
  unread = λ path. IoError step.Read path;
  expired = ExpiredToken;
  request = λ key settings token. refresh_call settings token;
  renewal = λ key token now a. login_renewal token now a;
  text = λ token. option_map encode_utf8_all (login_text token);
  unsaved = login_unsaved;
  is_memory = is_no_memory;
}
