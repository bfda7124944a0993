-- An endpoint as contracts see it, and what it replies.
use Rattle.std.specs.Prelude.{◌≡◌, ℕ, ◌+◌, ◌<◌, ◌≤◌, ◌⊎◌, List, [], ◌∷◌, ◌++◌, Bool, ◌&&◌, nat_le, nat_lt, codes, unwrap_or, if◌then◌else◌}
use Rattle.std.specs.Fmt.{decimal}
use Rattle.std.specs.Str.{encode_utf8_all, bytes_eq}
use Rattle.cfg_base.specs.Moment.{Moment}
use Rattle.cfg_base.specs.Text.{characters}
use Rattle.cfg_types.specs.declared.document.Field.TheVariants as field
use Rattle.cfg_types.specs.declared.reply.http.HttpReply.{HttpReply}
use Rattle.cfg_types.specs.declared.request.Request.{Request}
use Rattle.cfg_types.specs.declared.request.Request.TheVariants as request
use Rattle.cfg_types.specs.declared.request.http.MetadataGet.{MetadataGet}
use Rattle.cfg_json.specs.Writing.{braced}
use Rattle.cfg_world.specs.Faults.{full_count}
use Rattle.cfg_exchange.specs.Lifetimes.{lifetime_header}
use Rattle.cfg_token.specs.DateTexts.{date_of}
use Rattle.cfg_token.specs.SsoText.{with_text}
use Rattle.cfg_imds_credentials.specs.Metadata.{listing_path, role_path}
use Rattle.cfg_endpoint.specs.declared.served.Served.{Served}

-- the role, what is served, how many session tokens were given, and how many of them are forgotten
pub record EndpointState : Type 0 where
  pub role : List ℕ
  pub served : Served
  pub given : ℕ
  pub since : ℕ

-- ---- what is written

-- the text of a moment's date; an endpoint serves no moment without one
abbrev pub date_text : Moment → List ℕ
date_text m = unwrap_or (date_of m) []

-- the members of the document, from the text of its date
abbrev pub dated_members : Served → List ℕ → List ℕ
dated_members s date = with_text field.Expiration date (with_text field.Token s.token (with_text field.SecretAccessKey s.secret (with_text field.AccessKeyId s.id [])))

-- the bytes of the document of what is served
unfoldable pub document_of : Served → List ℕ
document_of s = encode_utf8_all (braced (dated_members s (date_text s.expires)))

-- ---- session tokens

-- the session token of this number, counted from 1
abbrev pub token_text : ℕ → List ℕ
token_text n = codes "token-" ++ decimal n

-- a session token that was given and is not forgotten
abbrev pub Accepts : EndpointState → List ℕ → Type 0
Accepts e token = (n : ℕ) × (e.since < n) × (n ≤ e.given) × (token ≡ token_text n)

-- from one second to six hours
abbrev pub is_lifetime : ℕ → Bool
is_lifetime seconds = nat_le 1 seconds && nat_le seconds 21600

-- a token is given for such a lifetime, unless the number of tokens is full
abbrev pub gives_token : EndpointState → ℕ → Bool
gives_token e seconds = is_lifetime seconds && nat_lt e.given full_count

-- ---- replies

abbrev pub with_body : List ℕ → HttpReply
with_body body = record { status = 200; headers = []; body = body }

abbrev pub without_body : ℕ → HttpReply
without_body status = record { status = status; headers = []; body = [] }

-- the session token of this number, with its lifetime in a header
abbrev pub token_reply : ℕ → ℕ → HttpReply
token_reply n seconds = record { status = 200; headers = record { name = lifetime_header; value = decimal seconds } ∷ []; body = token_text n }

-- the reply to a request for a session token of this lifetime
abbrev pub token_answer : EndpointState → ℕ → HttpReply
token_answer e seconds =
    if is_lifetime seconds then (if nat_lt e.given full_count then token_reply (e.given + 1) seconds else without_body 503) else without_body 400

-- what stands at a path of the instance metadata service
abbrev pub at_path : EndpointState → List ℕ → HttpReply
at_path e path =
    if bytes_eq path (characters listing_path) then with_body (encode_utf8_all e.role)
    else (if bytes_eq path (characters (role_path e.role)) then with_body (document_of e.served) else without_body 404)

-- the reply to a request for what stands at a path, which has a session token
abbrev pub IsGetReply : EndpointState → MetadataGet → HttpReply → Type 0
IsGetReply e call reply = (Accepts e call.token × (reply ≡ at_path e call.path)) ⊎ ((Accepts e call.token → ⊥) × (reply ≡ without_body 401))

-- what stands at a path of a container's endpoint
abbrev pub container_answer : EndpointState → List ℕ → HttpReply
container_answer e path = if bytes_eq path (codes "/c") then with_body (document_of e.served) else without_body 404

-- the requests that an endpoint replies to
abbrev pub IsServed : Request → Type 0
IsServed (request.Http call) = Unit {0}
IsServed (request.MetadataToken call) = Unit {0}
IsServed (request.MetadataGet call) = Unit {0}
IsServed _ = ⊥

-- the reply of an endpoint in this state
abbrev pub IsReply : EndpointState → Request → HttpReply → Type 0
IsReply e (request.Http call) reply = reply ≡ container_answer e call.path
IsReply e (request.MetadataToken call) reply = reply ≡ token_answer e call.ttl_seconds
IsReply e (request.MetadataGet call) reply = IsGetReply e call reply
IsReply e _ reply = ⊥

-- one token more was given
abbrev pub with_token : EndpointState → EndpointState
with_token e = record e { given = e.given + 1 }

abbrev pub after_token : EndpointState → ℕ → EndpointState
after_token e seconds = if gives_token e seconds then with_token e else e

-- the endpoint after such a request
abbrev pub after_request : EndpointState → Request → EndpointState
after_request e (request.MetadataToken call) = after_token e call.ttl_seconds
after_request e _ = e

-- the tokens that were given are forgotten
abbrev pub forgotten : EndpointState → EndpointState
forgotten e = record e { since = e.given }
