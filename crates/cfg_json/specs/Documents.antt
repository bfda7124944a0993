-- Documents of credentials: their fields, over the last text of a name.
use Rattle.std.specs.Option.{option_or}
use Rattle.std.specs.Prelude.{◌≡◌, ℕ, ◌⊎◌, List, [], true, false, Option, Some, None, Result, Ok, Err, codes, unwrap_or, if◌then◌else◌, ℤ, FitsSigned, pos, Bool}
use Rattle.std.specs.Int.{w32}
use Rattle.std.specs.Ordering.{int_eq}
use Rattle.std.specs.Str.{encode_utf8_all, bytes_eq}
use Rattle.std.specs.Str.Parse.{IsNumeral, without_leading_sign, signed_digits_value}
use Rattle.cfg_base.specs.Gives.{Gives, IsSaid, ◌>>=◌}
use Rattle.cfg_base.specs.Moment.{Moment}
use Rattle.cfg_types.specs.Keys.{Keys}
use Rattle.cfg_types.specs.Field.{field_name}
use Rattle.cfg_types.specs.declared.document.JsonError.{JsonError}
use Rattle.cfg_types.specs.declared.document.JsonError.TheVariants as json
use Rattle.cfg_types.specs.declared.document.Field.{Field}
use Rattle.cfg_types.specs.declared.document.Field.TheVariants as field
use Rattle.cfg_types.specs.declared.document.FieldFault.TheVariants as fault
use Rattle.cfg_json.specs.declared.credentials.JsonCredentials.{JsonCredentials}
use Rattle.cfg_json.specs.declared.credentials.JsonCredentials.TheVariants as document
use Rattle.cfg_types.specs.declared.document.InvalidJsonCredentials.{InvalidJsonCredentials}
use Rattle.cfg_types.specs.declared.document.InvalidJsonCredentials.TheVariants as invalid
use Rattle.cfg_json.specs.declared.member.Member.{Member}
use Rattle.cfg_json.specs.declared.member.Members.{Members}
use Rattle.cfg_json.specs.Objects.{HasObject}
use Rattle.cfg_json.specs.Answers.{MemberList, OpensObject, OpensOther, HasNoObject, OnlyWhiteSpaceFrom, only_list_answer}
use Rattle.cfg_json.specs.Lookups.{last_text, last_number}
use Rattle.cfg_json.specs.ReadingDates.{moment_at}

abbrev pub Read : Type 0 → Type 0
Read A = Result A InvalidJsonCredentials

-- the last text of a field, or of another one
abbrev pub field_text : List Member → Field → Field → Option (List ℕ)
field_text ms f other = last_text (field_name f) (field_name other) ms

-- the account that the members name
abbrev pub account_text : List Member → Option (List ℕ)
account_text ms = field_text ms field.AccountId field.AccountId

abbrev pub required : Field → Option (List ℕ) → Read (List ℕ)
required f None = Err (invalid.MissingField f)
required f (Some t) = Ok t

abbrev pub dated : Field → Option Moment → Read Moment
dated f None = Err (invalid.InvalidField f fault.Date)
dated f (Some m) = Ok m

-- the moment of a date in UTC, and of one with an offset
unfoldable pub date_in : List ℕ → Option Moment
date_in text = moment_at false (encode_utf8_all text)

unfoldable pub offset_date_in : List ℕ → Option Moment
offset_date_in text = moment_at true (encode_utf8_all text)

-- keys with a session token and an end, all of which have to be there
unfoldable pub refreshable : List Member → Read JsonCredentials
refreshable ms =
    required field.AccessKeyId (field_text ms field.AccessKeyId field.AccessKeyId) >>= λ id.
    required field.SecretAccessKey (field_text ms field.SecretAccessKey field.SecretAccessKey) >>= λ secret.
    required field.Token (field_text ms field.Token field.SessionToken) >>= λ token.
    required field.Expiration (field_text ms field.Expiration field.ExpiresAt) >>= λ end.
    dated field.Expiration (date_in end) >>= λ moment.
    Ok (document.RefreshableCredentials id secret token (account_text ms) moment)

abbrev pub refused : List Member → List ℕ → JsonCredentials
refused ms code = document.Error code (unwrap_or (field_text ms field.Message field.Message) (codes "no message"))

abbrev pub by_code : List Member → Option (List ℕ) → Read JsonCredentials
by_code ms None = refreshable ms
by_code ms (Some code) = if bytes_eq code (codes "Success") then refreshable ms else Ok (refused ms code)

-- what a document of credentials says
unfoldable pub document_of : List Member → Read JsonCredentials
document_of ms = by_code ms (field_text ms field.Code field.Code)

-- a whole number of 32 bits, as decimal digits with a minus before them or without one
abbrev pub IsWholeNumber : List ℕ → ℤ → Type 0
IsWholeNumber text n = IsNumeral 10 (without_leading_sign text) × FitsSigned w32 n × (n ≡ signed_digits_value 10 text)

-- the number of a version, if its text is one
abbrev pub ReadsWhole : List ℕ → Option ℤ → Type 0
ReadsWhole text (Some n) = IsWholeNumber text n
ReadsWhole text None = (n : ℤ) → IsWholeNumber text n → ⊥

-- no version; or a version, and its number if it is one
abbrev pub ReadsVersion : Option (List ℕ) → Option (Option ℤ) → Type 0
ReadsVersion None None = Unit {0}
ReadsVersion None (Some o) = ⊥
ReadsVersion (Some t) None = ⊥
ReadsVersion (Some t) (Some o) = ReadsWhole (encode_utf8_all t) o

-- what a function returned is this answer of a table of fields; or memory ran out
abbrev pub UnlessMemory : {A : Type 0} → Read A → Read A → Type 0
UnlessMemory result answer = Gives invalid.OutOfMemory result (IsSaid (λ x. x) answer)

-- the text is an object with these members, and nothing else
abbrev pub IsDocument : List ℕ → List Member → Type 0
IsDocument bytes ms = (end : ℕ) × HasObject bytes ms end × OnlyWhiteSpaceFrom bytes end

-- an object, and more behind it
abbrev pub IsFollowed : List ℕ → Type 0
IsFollowed bytes = (ms : List Member) × (end : ℕ) × HasObject bytes ms end × ¬ (OnlyWhiteSpaceFrom bytes end)

abbrev pub more_tokens : List ℕ
more_tokens = codes "found more JSON tokens after completing parsing"

-- What a reader of documents answers, by what the text is. Faults of the text come before faults of the fields, which
-- the table has.
abbrev pub AnswersDocument : {A : Type 0} → (List Member → Read A → Type 0) → List ℕ → Read A → Type 0
AnswersDocument Table bytes (Ok x) = (ms : List Member) × IsDocument bytes ms × Table ms (Ok x)
AnswersDocument Table bytes (Err (invalid.JsonError json.NotObject)) = OpensOther bytes
AnswersDocument Table bytes (Err (invalid.JsonError json.Syntax)) = OpensObject bytes × HasNoObject bytes
AnswersDocument Table bytes (Err (invalid.JsonError json.More)) = ⊥
AnswersDocument Table bytes (Err (invalid.JsonError json.OutOfMemory)) = ⊥
AnswersDocument Table bytes (Err (invalid.MissingField f)) = (ms : List Member) × IsDocument bytes ms × Table ms (Err (invalid.MissingField f))
AnswersDocument Table bytes (Err (invalid.InvalidField f e)) = (ms : List Member) × IsDocument bytes ms × Table ms (Err (invalid.InvalidField f e))
AnswersDocument Table bytes (Err (invalid.Other t)) = IsFollowed bytes × (t ≡ more_tokens)
AnswersDocument Table bytes (Err invalid.OutOfMemory) = Unit {0}

-- what a text is read as, by what a table says of the members of an object
abbrev pub by_members : {A : Type 0} → (List Member → Read A) → Result MemberList JsonError → Read A
by_members table (Ok members) = table members.0
by_members table (Err json.More) = Err (invalid.Other more_tokens)
by_members table (Err e) = Err (invalid.JsonError e)

-- what a text says whose members have this table
unfoldable pub said_by : {A : Type 0} → (List Member → Read A) → List ℕ → Read A
said_by table text = by_members table (only_list_answer text)

-- whether memory ran out
abbrev pub is_memory : {A : Type 0} → Read A → Bool
is_memory (Err invalid.OutOfMemory) = true
is_memory _ = false

-- the table of a document of credentials
abbrev pub IsTable : List Member → Read JsonCredentials → Type 0
IsTable ms answer = answer ≡ document_of ms

-- what a fault of the text is in a document
abbrev pub fault_of : JsonError → InvalidJsonCredentials → Type 0
fault_of json.NotObject e = e ≡ invalid.JsonError json.NotObject
fault_of json.Syntax e = e ≡ invalid.JsonError json.Syntax
fault_of json.More e = (e ≡ invalid.Other more_tokens) ⊎ (e ≡ invalid.OutOfMemory)
fault_of json.OutOfMemory e = e ≡ invalid.OutOfMemory

-- the members of a document, or its fault
abbrev pub ReadsDocument : List ℕ → Read Members → Type 0
ReadsDocument bytes (Ok m) = IsDocument bytes m.list
ReadsDocument bytes (Err (invalid.JsonError json.NotObject)) = OpensOther bytes
ReadsDocument bytes (Err (invalid.JsonError json.Syntax)) = OpensObject bytes × HasNoObject bytes
ReadsDocument bytes (Err (invalid.JsonError json.More)) = ⊥
ReadsDocument bytes (Err (invalid.JsonError json.OutOfMemory)) = ⊥
ReadsDocument bytes (Err (invalid.MissingField f)) = ⊥
ReadsDocument bytes (Err (invalid.InvalidField f e)) = ⊥
ReadsDocument bytes (Err (invalid.Other t)) = IsFollowed bytes × (t ≡ more_tokens)
ReadsDocument bytes (Err invalid.OutOfMemory) = Unit {0}

-- the version that a process's document has to have
abbrev pub known_version : Option (Option ℤ) → Read (Unit {0})
known_version None = Err (invalid.MissingField field.Version)
known_version (Some None) = Err (invalid.InvalidField field.Version fault.Version)
known_version (Some (Some n)) = if int_eq n (pos 1) then Ok tt else Err (invalid.InvalidField field.LowerVersion (fault.UnknownVersion n))

abbrev pub optional_end : Option (List ℕ) → Read (Option Moment)
optional_end None = Ok None
optional_end (Some t) = dated field.Expiration (offset_date_in t) >>= λ m. Ok (Some m)

-- what the document of a process says, by its version; the account is the document's, or else the profile's
unfoldable pub process_of : List Member → Option (Option ℤ) → Option (List ℕ) → Read Keys
process_of ms version account =
    known_version version >>= λ _.
    required field.AccessKeyId (field_text ms field.AccessKeyId field.AccessKeyId) >>= λ id.
    required field.SecretAccessKey (field_text ms field.SecretAccessKey field.SecretAccessKey) >>= λ secret.
    optional_end (field_text ms field.Expiration field.Expiration) >>= λ end.
    Ok (record {
      access_key_id = id;
      secret_access_key = secret;
      session_token = field_text ms field.SessionToken field.SessionToken;
      expiry = end;
      account_id = option_or (account_text ms) account;
      provider_name = codes "CredentialProcess";
      features = [];
    })

-- the table of a document of a process
abbrev pub IsProcessTable : Option (List ℕ) → List Member → Read Keys → Type 0
IsProcessTable account ms answer = (version : Option (Option ℤ)) × ReadsVersion (last_number (field_name field.Version) ms) version × (answer ≡ process_of ms version account)
