-- The object `accessToken` of a file: the keys of a session.
use Rattle.std.specs.Prelude.{◌≡◌, ℕ, List, [], Bool, true, false, Option, Some, None, Result, Ok, Err, codes, if◌then◌else◌}
use Rattle.std.specs.List.{list_any}
use Rattle.cfg_base.specs.Gives.{Gives, IsSaid, ◌>>=◌}
use Rattle.cfg_types.specs.Keys.{Keys}
use Rattle.cfg_types.specs.declared.document.JsonError.{JsonError}
use Rattle.cfg_types.specs.declared.errors.login.LoginJsonFault.TheVariants.{Nested, Document, ErrorDocument}
use Rattle.cfg_types.specs.declared.errors.login.LoginTokenError.{LoginTokenError}
use Rattle.cfg_types.specs.declared.errors.login.LoginTokenError.TheVariants.{JsonError as Json, OutOfMemory}
use Rattle.cfg_json.specs.declared.member.Member.{Member}
use Rattle.cfg_json.specs.declared.member.MemberValue.{MemberValue}
use Rattle.cfg_json.specs.declared.member.MemberValue.TheVariants as value
use Rattle.cfg_json.specs.declared.credentials.JsonCredentials.{JsonCredentials}
use Rattle.cfg_json.specs.declared.credentials.JsonCredentials.TheVariants as document
use Rattle.cfg_json.specs.declared.member.Members.{Members}
use Rattle.cfg_types.specs.declared.document.InvalidJsonCredentials.{InvalidJsonCredentials}
use Rattle.cfg_types.specs.declared.document.InvalidJsonCredentials.TheVariants as invalid
use Rattle.cfg_json.specs.Places.{between}
use Rattle.cfg_json.specs.Lookups.{last_given}
use Rattle.cfg_json.specs.Answers.{MemberList, only_list_answer}
use Rattle.cfg_json.specs.Documents.{IsDocument, document_of}
use Rattle.cfg_json.specs.Documents as documents
use Rattle.cfg_token.specs.SsoFile.{is_named}
use Rattle.cfg_login_token.specs.declared.access.AccessKeys.{AccessKeys}

abbrev pub Read : Type 0 → Type 0
Read A = Result A LoginTokenError

abbrev pub Place : Type 0
Place = ℕ × ℕ

-- where an object begins and ends
abbrev pub place_in : MemberValue → Option Place
place_in (value.Text t) = None
place_in (value.Number t) = None
place_in (value.Object from to) = Some (from, to)
place_in (value.Array has) = None
place_in value.Other = None

abbrev pub place_under : List ℕ → Member → Option Place
place_under name m = if is_named name m.key then place_in m.value else None

-- the place of the last object under a name
abbrev pub last_place : List ℕ → List Member → Option Place
last_place name ms = last_given (place_under name) ms

-- the bytes are an object, and nothing else
abbrev pub IsObjectText : List ℕ → Type 0
IsObjectText bytes = (ms : List Member) × IsDocument bytes ms

-- the members of bytes that are an object
abbrev pub list_in : Result MemberList JsonError → List Member
list_in (Ok read) = read.0
list_in (Err e) = []

unfoldable pub members_in : List ℕ → List Member
members_in bytes = list_in (only_list_answer bytes)

-- an object, or an array with an object in it
abbrev pub has_object : MemberValue → Bool
has_object (value.Text t) = false
has_object (value.Number t) = false
has_object (value.Object from to) = true
has_object (value.Array has) = has
has_object value.Other = false

abbrev pub holds_object : Member → Bool
holds_object m = has_object m.value

-- the keys in a document of credentials
abbrev pub keys_of : documents.Read JsonCredentials → Read AccessKeys
keys_of (Ok (document.RefreshableCredentials id secret token account end)) = Ok (record { access_key_id = id; secret_access_key = secret; session_token = token; account_id = account; expiration = end })
keys_of (Ok (document.Error code message)) = Err (Json ErrorDocument)
keys_of (Err e) = Err (Json Document)

-- The keys of an object's members, none of which holds an object.
unfoldable pub access_of : List Member → Read AccessKeys
access_of ms = if list_any holds_object ms then Err (Json Nested) else keys_of (document_of ms)

-- the keys of the object at a place, where there is one
abbrev pub access_at : List ℕ → Option Place → Read (Option AccessKeys)
access_at bytes None = Ok None
access_at bytes (Some place) = access_of (members_in (between bytes place.0 place.1)) >>= λ keys. Ok (Some keys)

-- the credentials of a session: from `Login`, with a session token, an end and an account
abbrev pub login_keys : AccessKeys → List ℕ → Keys
login_keys keys account = record {
  access_key_id = keys.access_key_id;
  secret_access_key = keys.secret_access_key;
  session_token = Some keys.session_token;
  expiry = Some keys.expiration;
  account_id = Some account;
  provider_name = codes "Login";
  features = [];
}

-- what a function returned is this answer; or memory ran out
abbrev pub UnlessMemory : {A : Type 0} → Read A → Read A → Type 0
UnlessMemory result answer = Gives OutOfMemory result (IsSaid (λ x. x) answer)

-- the members of bytes that are an object; or memory ran out
abbrev pub ReadsInner : List ℕ → Read Members → Type 0
ReadsInner bytes result = Gives OutOfMemory result (IsSaid (λ m. m.list) (Ok (members_in bytes)))

-- why a document has no keys, or that memory ran out
abbrev pub fault_said : InvalidJsonCredentials → LoginTokenError
fault_said invalid.OutOfMemory = OutOfMemory
fault_said _ = Json Document

-- what a document says of its keys, where it was read
abbrev pub SaysKeys : documents.Read JsonCredentials → Read AccessKeys → Type 0
SaysKeys (Ok document) result = result ≡ keys_of (Ok document)
SaysKeys (Err e) result = result ≡ Err (fault_said e)
