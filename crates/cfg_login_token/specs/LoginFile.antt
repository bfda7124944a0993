-- The file of a token of a sign-in session.
use Rattle.std.specs.Prelude.{◌≡◌, ◌⊎◌, ℕ, List, Option, Some, None, option_map, Result, Ok, Err}
use Rattle.cfg_base.specs.Gives.{Gives, IsSaid, ◌>>=◌}
use Rattle.cfg_types.specs.Field.{field_name, json_error_text}
use Rattle.cfg_types.specs.Keys.{Keys}
use Rattle.cfg_types.specs.declared.document.Field.{Field}
use Rattle.cfg_types.specs.declared.document.Field.TheVariants as field
use Rattle.cfg_types.specs.declared.document.JsonError.{JsonError}
use Rattle.cfg_types.specs.declared.document.JsonError.TheVariants as json
use Rattle.cfg_types.specs.declared.errors.login.LoginJsonFault.TheVariants.{Text, Nested, Document, ErrorDocument}
use Rattle.cfg_types.specs.declared.errors.login.LoginTokenError.{LoginTokenError}
use Rattle.cfg_types.specs.declared.errors.login.LoginTokenError.TheVariants.{FailedToFormatDateTime, IoError, JsonError as Json, MissingField, NoHomeDirectory, ExpiredToken, RefreshFailed, Other, OutOfMemory}
use Rattle.cfg_json.specs.declared.member.Member.{Member}
use Rattle.cfg_json.specs.declared.member.Members.{Members}
use Rattle.cfg_json.specs.Objects.{HasObject}
use Rattle.cfg_json.specs.Answers.{MemberList, OpensObject, OpensOther, HasNoObject, list_answer}
use Rattle.cfg_token.specs.SsoFile.{text_of}
use Rattle.cfg_login_token.specs.declared.login_token.LoginToken.{LoginToken}
use Rattle.cfg_login_token.specs.Access.{Read, last_place, access_at, login_keys}
use Rattle.cfg_login_token.specs.DpopKeys.{with_line_feeds}

abbrev pub required : {A : Type 0} → Field → Option A → Read A
required f None = Err (MissingField f)
required f (Some x) = Ok x

-- the key in a file's members
abbrev pub key_of : List Member → Option (List ℕ)
key_of ms = option_map with_line_feeds (text_of ms field.DpopKey)

-- a token with these credentials and texts, and the optional texts that the members have
abbrev pub token_with : List Member → Keys → List ℕ → List ℕ → List ℕ → LoginToken
token_with ms access client key refresh = record {
  access_token = access;
  token_type = text_of ms field.TokenType;
  identity_token = text_of ms field.IdToken;
  refresh_token = refresh;
  client_id = client;
  dpop_key = key;
}

-- The token of a file's members. The faults of the object `accessToken` come before a field that is not there.
unfoldable pub token_of : List ℕ → List Member → Read LoginToken
token_of bytes ms =
    access_at bytes (last_place (field_name field.AccessToken) ms) >>= λ access.
    required field.LowerAccessKeyId access >>= λ keys.
    required field.LowerAccountId keys.account_id >>= λ account.
    required field.ClientId (text_of ms field.ClientId) >>= λ client.
    required field.DpopKey (key_of ms) >>= λ key.
    required field.RefreshToken (text_of ms field.RefreshToken) >>= λ refresh.
    Ok (token_with ms (login_keys keys account) client key refresh)

-- the answer to bytes at whose front no object stands
abbrev pub text_fault : JsonError → LoginTokenError
text_fault json.NotObject = Other (json_error_text json.NotObject)
text_fault json.Syntax = Json Text
text_fault json.More = Json Text
text_fault json.OutOfMemory = Json Text

-- the members of the object at the front of the bytes, or why there is none
abbrev pub or_fault : Result MemberList JsonError → Read (List Member)
or_fault (Ok read) = Ok read.0
or_fault (Err e) = Err (text_fault e)

-- the members in the bytes of a file, and the token of these; what follows the object is not looked at
unfoldable pub members_of_file : List ℕ → Read (List Member)
members_of_file bytes = or_fault (list_answer bytes)

unfoldable pub login_file : List ℕ → Read LoginToken
login_file bytes = members_of_file bytes >>= token_of bytes

-- the members, or their fault; or memory ran out
abbrev pub ReadsMembers : List ℕ → Read Members → Type 0
ReadsMembers bytes result = Gives OutOfMemory result (IsSaid (λ m. m.list) (members_of_file bytes))

-- a fault of the text, as a file's error; or memory ran out
abbrev pub IsFaultOf : JsonError → LoginTokenError → Type 0
IsFaultOf json.OutOfMemory result = result ≡ OutOfMemory
IsFaultOf error result = (result ≡ OutOfMemory) ⊎ (result ≡ text_fault error)

-- an object stands at the front of the bytes, of whose members this is read
abbrev pub IsOfMembers : List ℕ → Read LoginToken → Type 0
IsOfMembers bytes answer = (ms : List Member) × (end : ℕ) × HasObject bytes ms end × (token_of bytes ms ≡ answer)

-- What the reader of a file answers, by what the bytes are. Faults of the text come before faults of the fields.
abbrev pub AnswersFile : List ℕ → Read LoginToken → Type 0
AnswersFile bytes (Ok token) = IsOfMembers bytes (Ok token)
AnswersFile bytes (Err (MissingField f)) = IsOfMembers bytes (Err (MissingField f))
AnswersFile bytes (Err (Json Nested)) = IsOfMembers bytes (Err (Json Nested))
AnswersFile bytes (Err (Json Document)) = IsOfMembers bytes (Err (Json Document))
AnswersFile bytes (Err (Json ErrorDocument)) = IsOfMembers bytes (Err (Json ErrorDocument))
AnswersFile bytes (Err (Json Text)) = OpensObject bytes × HasNoObject bytes
AnswersFile bytes (Err (Other text)) = OpensOther bytes × (text ≡ json_error_text json.NotObject)
AnswersFile bytes (Err OutOfMemory) = Unit {0}
AnswersFile bytes (Err FailedToFormatDateTime) = ⊥
AnswersFile bytes (Err (IoError what path)) = ⊥
AnswersFile bytes (Err NoHomeDirectory) = ⊥
AnswersFile bytes (Err ExpiredToken) = ⊥
AnswersFile bytes (Err (RefreshFailed message)) = ⊥
