-- The file of a token of IAM Identity Center.
use Rattle.std.specs.Prelude.{◌≡◌, ◌⊎◌, ℕ, List, Bool, Option, Some, None, Result, Ok, Err, if◌then◌else◌}
use Rattle.std.specs.Str.{encode_utf8_all, str_eq_ignore_ascii_case}
use Rattle.cfg_base.specs.Gives.{Gives, IsSaid, ◌>>=◌}
use Rattle.cfg_base.specs.Moment.{Moment}
use Rattle.cfg_types.specs.Field.{field_name, json_error_text}
use Rattle.cfg_types.specs.declared.document.Field.{Field}
use Rattle.cfg_types.specs.declared.document.Field.TheVariants as field
use Rattle.cfg_types.specs.declared.document.JsonError.{JsonError}
use Rattle.cfg_types.specs.declared.document.JsonError.TheVariants as json
use Rattle.cfg_types.specs.declared.errors.sso.CachedSsoTokenError.{CachedSsoTokenError}
use Rattle.cfg_types.specs.declared.errors.sso.CachedSsoTokenError.TheVariants.{FailedToFormatDateTime, InvalidField, IoError, JsonError as NoJson, MissingField, NoHomeDirectory, Other, OutOfMemory}
use Rattle.cfg_json.specs.declared.member.Member.{Member}
use Rattle.cfg_json.specs.declared.member.Members.{Members}
use Rattle.cfg_json.specs.Lookups.{last_given, text_in}
use Rattle.cfg_json.specs.Answers.{MemberList, OpensObject, OpensOther, HasNoObject, only_list_answer}
use Rattle.cfg_json.specs.Documents.{IsDocument, IsFollowed, date_in}
use Rattle.cfg_token.specs.declared.sso_token.CachedSsoToken.{CachedSsoToken}

abbrev pub Read : Type 0 → Type 0
Read A = Result A CachedSsoTokenError

-- the key is the name, without regard to the case of ASCII letters
abbrev pub is_named : List ℕ → List ℕ → Bool
is_named name key = str_eq_ignore_ascii_case (encode_utf8_all key) name

-- the text of a member of this name
abbrev pub text_under_name : List ℕ → Member → Option (List ℕ)
text_under_name name m = if is_named name m.key then text_in m.value else None

-- the last text under a name, and that of a field
abbrev pub last_text : List ℕ → List Member → Option (List ℕ)
last_text name ms = last_given (text_under_name name) ms

abbrev pub text_of : List Member → Field → Option (List ℕ)
text_of ms f = last_text (field_name f) ms

abbrev pub required : Field → Option (List ℕ) → Read (List ℕ)
required f None = Err (MissingField f)
required f (Some text) = Ok text

abbrev pub dated : Field → Option Moment → Read Moment
dated f None = Err (InvalidField f)
dated f (Some moment) = Ok moment

abbrev pub optional_date : Field → Option (List ℕ) → Read (Option Moment)
optional_date f None = Ok None
optional_date f (Some text) = dated f (date_in text) >>= λ moment. Ok (Some moment)

-- a token with this access token and these dates, and the texts that the members have
abbrev pub token_with : List Member → List ℕ → Moment → Option Moment → CachedSsoToken
token_with ms access expiry registration = record {
  access_token = access;
  expires_at = expiry;
  refresh_token = text_of ms field.RefreshToken;
  client_id = text_of ms field.ClientId;
  client_secret = text_of ms field.ClientSecret;
  registration_expires_at = registration;
  region = text_of ms field.Region;
  start_url = text_of ms field.StartUrl;
}

-- The token of a file's members. Both of its first two fields have to be there, and each date has to be one.
unfoldable pub token_of : List Member → Read CachedSsoToken
token_of ms =
    required field.AccessToken (text_of ms field.AccessToken) >>= λ access.
    required field.LowerExpiresAt (text_of ms field.LowerExpiresAt) >>= λ end.
    dated field.LowerExpiresAt (date_in end) >>= λ expiry.
    optional_date field.RegistrationExpiresAt (text_of ms field.RegistrationExpiresAt) >>= λ registration.
    Ok (token_with ms access expiry registration)

-- the answer to bytes that are no object, or not only one
abbrev pub text_fault : JsonError → CachedSsoTokenError
text_fault json.NotObject = Other (json_error_text json.NotObject)
text_fault json.Syntax = NoJson
text_fault json.More = Other (json_error_text json.More)
text_fault json.OutOfMemory = OutOfMemory

-- the members of the bytes, or why they have none
abbrev pub or_fault : Result MemberList JsonError → Read (List Member)
or_fault (Ok read) = Ok read.0
or_fault (Err e) = Err (text_fault e)

-- the members in the bytes of a file, and the token of these, read from left to right
unfoldable pub members_of_file : List ℕ → Read (List Member)
members_of_file bytes = or_fault (only_list_answer bytes)

unfoldable pub sso_file : List ℕ → Read CachedSsoToken
sso_file bytes = members_of_file bytes >>= token_of

-- what a function returned is this answer; or memory ran out
abbrev pub UnlessMemory : {A : Type 0} → Read A → Read A → Type 0
UnlessMemory result answer = Gives OutOfMemory result (IsSaid (λ x. x) answer)

-- the members, or their fault; or memory ran out
abbrev pub ReadsMembers : List ℕ → Read Members → Type 0
ReadsMembers bytes result = Gives OutOfMemory result (IsSaid (λ m. m.list) (members_of_file bytes))

-- a fault of the text, as a file's error; or memory ran out
abbrev pub IsFaultOf : JsonError → CachedSsoTokenError → Type 0
IsFaultOf error result = (result ≡ OutOfMemory) ⊎ (result ≡ text_fault error)

-- the bytes are an object, of whose members this is read
abbrev pub IsOfMembers : List ℕ → Read CachedSsoToken → Type 0
IsOfMembers bytes answer = (ms : List Member) × IsDocument bytes ms × (token_of ms ≡ answer)

-- What the reader of a file answers, by what the bytes are. Faults of the text come before faults of the fields.
abbrev pub AnswersFile : List ℕ → Read CachedSsoToken → Type 0
AnswersFile bytes (Ok token) = IsOfMembers bytes (Ok token)
AnswersFile bytes (Err (MissingField f)) = IsOfMembers bytes (Err (MissingField f))
AnswersFile bytes (Err (InvalidField f)) = IsOfMembers bytes (Err (InvalidField f))
AnswersFile bytes (Err NoJson) = OpensObject bytes × HasNoObject bytes
AnswersFile bytes (Err (Other text)) = (OpensOther bytes × (text ≡ json_error_text json.NotObject)) ⊎ (IsFollowed bytes × (text ≡ json_error_text json.More))
AnswersFile bytes (Err OutOfMemory) = Unit {0}
AnswersFile bytes (Err FailedToFormatDateTime) = ⊥
AnswersFile bytes (Err (IoError what path)) = ⊥
AnswersFile bytes (Err NoHomeDirectory) = ⊥
