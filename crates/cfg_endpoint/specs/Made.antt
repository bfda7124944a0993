-- Which endpoints are made, and why none is.
use Rattle.std.specs.Prelude.{◌≡◌, ◌≤◌, ℕ, List, [], Bool, true, false, Result, Ok, Err, codes}
use Rattle.std.specs.Str.{all_scalars, IsUtf8}
use Rattle.cfg_base.specs.Moment.{Moment}
use Rattle.cfg_base.specs.Text.{characters}
use Rattle.cfg_json.specs.Dates.{IsWrittenDate, IsOutside}
use Rattle.cfg_imds.specs.declared.endpoint.Endpoint.TheVariants.{At}
use Rattle.cfg_imds.specs.Clients.{is_usable}
use Rattle.cfg_imds_credentials.specs.Metadata.{role_path}
use Rattle.cfg_endpoint.specs.declared.served.Served.{Served}
use Rattle.cfg_endpoint.specs.declared.fault.EndpointFault.{EndpointFault}
use Rattle.cfg_endpoint.specs.declared.fault.EndpointFault.TheVariants.{BadRole, BadExpiry, OutOfMemory}
use Rattle.cfg_endpoint.specs.Endpoints.{EndpointState, document_of}

-- the address of the instance metadata service
abbrev pub service_address : List ℕ
service_address = codes "http://169.254.169.254"

-- a client of that service asks for the path of the role
abbrev pub is_asked_for : List ℕ → Bool
is_asked_for [] = false
is_asked_for role = is_usable (At service_address) (role_path role)

-- each text that is served is one of Unicode characters
pub record HasTexts (s : Served) : Type 0 where
  pub id : all_scalars s.id ≡ true
  pub secret : all_scalars s.secret ≡ true
  pub token : all_scalars s.token ≡ true

-- a moment that has a date
abbrev pub IsDated : Moment → Type 0
IsDated m = (text : List ℕ) × IsWrittenDate text m

-- What is served has texts and a date, and its document is UTF-8.
pub record IsWritable (s : Served) : Type 0 where
  pub texts : HasTexts s
  pub dated : IsDated s.expires
  pub utf8 : IsUtf8 (document_of s)

-- Its role is asked for, what it serves is written, and no token is forgotten that was not given.
pub record IsMade (e : EndpointState) : Type 0 where
  pub role : is_asked_for e.role ≡ true
  pub is_text : all_scalars e.role ≡ true
  pub served : IsWritable e.served
  pub forgotten : e.since ≤ e.given

-- an endpoint that has given no token
abbrev pub new_endpoint : List ℕ → Served → EndpointState
new_endpoint role served = record { role = role; served = served; given = 0; since = 0 }

-- What comes of making an endpoint: a role that is not asked for is refused first, then a moment that has no date.
abbrev pub Makes : List ℕ → Served → Result EndpointState EndpointFault → Type 0
Makes role served (Ok e) = (e ≡ new_endpoint role served) × IsMade e
Makes role served (Err (BadRole refused)) = (is_asked_for role ≡ false) × (refused ≡ role)
Makes role served (Err (BadExpiry refused)) = (is_asked_for role ≡ true) × IsOutside served.expires.seconds × (refused ≡ served.expires)
Makes role served (Err OutOfMemory) = Unit {0}

-- What comes of serving something else: a moment that has no date is refused, and then nothing changes.
abbrev pub Replaces : EndpointState → EndpointState → Served → Result (Unit {0}) EndpointFault → Type 0
Replaces old new served (Ok u) = (new ≡ record old { served = served }) × IsWritable served
Replaces old new served (Err (BadRole refused)) = ⊥
Replaces old new served (Err (BadExpiry refused)) = (new ≡ old) × IsOutside served.expires.seconds × (refused ≡ served.expires)
Replaces old new served (Err OutOfMemory) = new ≡ old

-- An endpoint's own fields: it is made, and has the path of its role and its document at hand.
pub record IsReady (e : EndpointState) (path document : List ℕ) : Type 0 where
  pub made : IsMade e
  pub has_path : path ≡ characters (role_path e.role)
  pub has_document : document ≡ document_of e.served
