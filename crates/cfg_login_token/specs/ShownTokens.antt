-- The Debug text of a token, which depends on no secret.
use Rattle.std.specs.Prelude.{ℕ, List, ◌++◌, codes}
use Rattle.cfg_types.specs.Keys.{Keys}
use Rattle.cfg_types.specs.DebugTexts.{shown_credentials}

-- a token of a sign-in session: its credentials, as these are shown
abbrev pub shown_login_token : Keys → List ℕ
shown_login_token keys = codes "LoginToken { access_token: " ++ (shown_credentials keys.provider_name keys.access_key_id keys.expiry keys.account_id ++ codes ", secrets: \"** redacted **\" }")
