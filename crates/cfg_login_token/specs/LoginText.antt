-- The text that is written for a token of a sign-in session.
use Rattle.std.specs.Prelude.{◌≡◌, ℕ, List, [], true, Option, option_map, Result, Ok, Err}
use Rattle.std.specs.Str.{all_scalars}
use Rattle.cfg_base.specs.Gives.{Gives}
use Rattle.cfg_base.specs.Text.{characters}
use Rattle.cfg_types.specs.Field.{field_name}
use Rattle.cfg_types.specs.Keys.{Keys}
use Rattle.cfg_types.specs.declared.document.Field.TheVariants as field
use Rattle.cfg_types.specs.declared.errors.login.LoginTokenError.{LoginTokenError}
use Rattle.cfg_types.specs.declared.errors.login.LoginTokenError.TheVariants.{FailedToFormatDateTime, IoError, JsonError as Json, MissingField, NoHomeDirectory, ExpiredToken, RefreshFailed, Other, OutOfMemory}
use Rattle.cfg_json.specs.Writing.{braced, with_member}
use Rattle.cfg_token.specs.SsoText.{with_text, with_text_if_there, IsWrittenIfThere, date_if_there, IsOutsideIfThere, HasScalarsIfThere}
use Rattle.cfg_login_token.specs.declared.login_token.LoginToken.{LoginToken}
use Rattle.cfg_login_token.specs.declared.access.AccessKeys.{AccessKeys}
use Rattle.cfg_login_token.specs.Access.{login_keys}
use Rattle.cfg_login_token.specs.DpopKeys.{with_line_feeds}

-- the members of the object `accessToken`, from the text of the end
abbrev pub access_members : Keys → Option (List ℕ) → List ℕ
access_members keys expiry =
    with_text_if_there field.LowerExpiresAt expiry
    (with_text_if_there field.LowerAccountId keys.account_id
    (with_text_if_there field.LowerSessionToken keys.session_token
    (with_text field.LowerSecretAccessKey keys.secret_access_key
    (with_text field.LowerAccessKeyId keys.access_key_id []))))

-- the first member of a token's file
abbrev pub access_member : Keys → Option (List ℕ) → List ℕ
access_member keys expiry = with_member [] (characters (field_name field.AccessToken)) (braced (access_members keys expiry))

-- the members of a token's file
abbrev pub token_members : LoginToken → Option (List ℕ) → List ℕ
token_members token expiry =
    with_text field.DpopKey token.dpop_key
    (with_text field.ClientId token.client_id
    (with_text_if_there field.IdToken token.identity_token
    (with_text field.RefreshToken token.refresh_token
    (with_text_if_there field.TokenType token.token_type
    (access_member token.access_token expiry)))))

-- the text of a token's file
pub record IsLoginText (token : LoginToken) (text : List ℕ) : Type 0 where
  pub expiry : Option (List ℕ)
  pub is_expiry : IsWrittenIfThere expiry token.access_token.expiry
  pub is : text ≡ braced (token_members token expiry)

-- the text of a token's file, where its end has one
unfoldable pub login_text : LoginToken → Option (List ℕ)
login_text token = option_map (λ expiry. braced (token_members token expiry)) (date_if_there token.access_token.expiry)

-- its end is outside the years 1 to 9999
abbrev pub HasNoText : LoginToken → Type 0
HasNoText token = IsOutsideIfThere token.access_token.expiry

-- What the writer of a text answers, by what this is a text of and where it has none.
abbrev pub Writes : {A : Type 0} → (A → Type 0) → Type 0 → Result A LoginTokenError → Type 0
Writes IsTextOf Outside (Ok text) = IsTextOf text
Writes IsTextOf Outside (Err FailedToFormatDateTime) = Outside
Writes IsTextOf Outside (Err OutOfMemory) = Unit {0}
Writes IsTextOf Outside (Err (IoError what path)) = ⊥
Writes IsTextOf Outside (Err (Json fault)) = ⊥
Writes IsTextOf Outside (Err (MissingField f)) = ⊥
Writes IsTextOf Outside (Err NoHomeDirectory) = ⊥
Writes IsTextOf Outside (Err ExpiredToken) = ⊥
Writes IsTextOf Outside (Err (RefreshFailed message)) = ⊥
Writes IsTextOf Outside (Err (Other text)) = ⊥

-- the answer where the end has no text; or memory ran out
abbrev pub FailsToFormat : {A : Type 0} → Result A LoginTokenError → Type 0
FailsToFormat result = Gives OutOfMemory result (λ r. r ≡ Err FailedToFormatDateTime)

-- A token as a file gives it: credentials of a session, each text one of Unicode characters, and no backslash before an
-- `n` in the key.
pub record IsOfFile (token : LoginToken) : Type 0 where
  pub keys : AccessKeys
  pub account : List ℕ
  pub access_token : token.access_token ≡ login_keys keys account
  pub access_key_id : all_scalars keys.access_key_id ≡ true
  pub secret_access_key : all_scalars keys.secret_access_key ≡ true
  pub session_token : all_scalars keys.session_token ≡ true
  pub account_id : all_scalars account ≡ true
  pub token_type : HasScalarsIfThere token.token_type
  pub identity_token : HasScalarsIfThere token.identity_token
  pub refresh_token : all_scalars token.refresh_token ≡ true
  pub client_id : all_scalars token.client_id ≡ true
  pub dpop_key : all_scalars token.dpop_key ≡ true
  pub line_feeds : with_line_feeds token.dpop_key ≡ token.dpop_key
