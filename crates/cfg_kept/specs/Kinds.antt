-- What is kept from one call to the next, and where.
use Rattle.std.specs.Prelude.{Option, None}
use Rattle.cfg_base.specs.Moment.{Moment}
use Rattle.cfg_types.specs.Keys.{Keys}
use Rattle.cfg_token.specs.declared.sso_token.CachedSsoToken.{CachedSsoToken}
use Rattle.cfg_login_token.specs.declared.login_token.LoginToken.{LoginToken}
use Rattle.cfg_imds.specs.Tokens.{Token}
use Rattle.cfg_kept.specs.declared.place.Place.{Place}
use Rattle.cfg_kept.specs.declared.place.Place.TheVariants.{Chain, Named}

-- where a value is kept: the section of the token of IAM Identity Center, and that of the token of a
-- sign-in session; for each place of a metadata client its session token, and the credentials that were
-- retrieved there
pub data Spot : Type 0 where
  SsoSection : Spot
  LoginSection : Spot
  MetadataTokenOf : Place → Spot
  RetrievedOf : Place → Spot

-- a kept value at its spot, without its receipts: of a section the token and the last attempt; of a
-- place the session token, if one is kept, or the keys that were retrieved, if any were
pub data Value : Type 0 where
  SsoAt : (token : Option CachedSsoToken) → (last : Option Moment) → Value
  LoginAt : (token : Option LoginToken) → (last : Option Moment) → Value
  MetadataTokenAt : (place : Place) → (token : Option Token) → Value
  RetrievedAt : (place : Place) → (keys : Option Keys) → Value

abbrev pub spot_of : Value → Spot
spot_of (SsoAt token last) = SsoSection
spot_of (LoginAt token last) = LoginSection
spot_of (MetadataTokenAt place token) = MetadataTokenOf place
spot_of (RetrievedAt place keys) = RetrievedOf place

-- what is kept of a token: the token, and the last attempt at a new one
pub record KeptToken (T : Type 0) : Type 0 where
  pub token : Option T
  pub last : Option Moment

-- nothing is kept of a token
abbrev pub no_token : {T : Type 0} → KeptToken T
no_token = record { token = None; last = None }

-- what is kept for one place: a session token, and retrieved keys
pub record PlaceStates : Type 0 where
  pub token : Option Token
  pub retrieved : Option Keys

-- the kept states, receipts left aside
pub record States : Type 0 where
  pub sso : KeptToken CachedSsoToken
  pub login : KeptToken LoginToken
  pub chain : PlaceStates
  pub named : PlaceStates

-- nothing is kept for a place
abbrev pub no_place_states : PlaceStates
no_place_states = record { token = None; retrieved = None }

-- nothing is kept
abbrev pub no_states : States
no_states = record { sso = no_token; login = no_token; chain = no_place_states; named = no_place_states }

-- what is kept for a place
abbrev pub place_states : States → Place → PlaceStates
place_states states Chain = states.chain
place_states states Named = states.named

-- the states with this for a place
abbrev pub with_place : States → Place → PlaceStates → States
with_place states Chain kept = record states { chain = kept }
with_place states Named kept = record states { named = kept }

-- what is kept at this spot
abbrev pub value_at : States → Spot → Value
value_at states SsoSection = SsoAt states.sso.token states.sso.last
value_at states LoginSection = LoginAt states.login.token states.login.last
value_at states (MetadataTokenOf place) = MetadataTokenAt place (place_states states place).token
value_at states (RetrievedOf place) = RetrievedAt place (place_states states place).retrieved

-- the states with this value at its spot
abbrev pub with_value : States → Value → States
with_value states (SsoAt token last) = record states { sso = record { token = token; last = last } }
with_value states (LoginAt token last) = record states { login = record { token = token; last = last } }
with_value states (MetadataTokenAt place token) = with_place states place (record (place_states states place) { token = token })
with_value states (RetrievedAt place keys) = with_place states place (record (place_states states place) { retrieved = keys })

-- the token of IAM Identity Center in a value, and the last attempt
abbrev pub sso_in : Value → KeptToken CachedSsoToken
sso_in (SsoAt token last) = record { token = token; last = last }
sso_in _ = no_token

-- the token of a sign-in session in a value, and the last attempt
abbrev pub login_in : Value → KeptToken LoginToken
login_in (LoginAt token last) = record { token = token; last = last }
login_in _ = no_token

-- the session token of a metadata client in a value
abbrev pub token_in : Value → Option Token
token_in (MetadataTokenAt place token) = token
token_in _ = None

-- the retrieved keys in a value
abbrev pub keys_in : Value → Option Keys
keys_in (RetrievedAt place keys) = keys
keys_in _ = None
