-- What a client asks, and what it is set to.
use Rattle.std.specs.Prelude.{ℕ, List, Bool, Option, Some, None, is_none, option_map, Result, Ok, Err, if◌then◌else◌}
use Rattle.std.specs.Option.{option_or}
use Rattle.std.specs.declared.alloc.Global.{Global}
use Rattle.std.specs.declared.dyn_box.DynBox.{DynBox}
use Rattle.cfg_base.specs.Text.{characters}
use Rattle.cfg_types.specs.declared.errors.imds.BuildError.TheVariants.{InvalidEndpointMode, InvalidEndpointUri}
use Rattle.cfg_types.specs.declared.errors.imds.InvalidEndpointMode.TheVariants as mode
use Rattle.cfg_types.specs.declared.errors.imds.ImdsError.{ImdsError}
use Rattle.cfg_types.specs.declared.errors.imds.ImdsError.TheVariants.{Unexpected}
use Rattle.cfg_types.specs.declared.errors.imds.UnexpectedCause.{UnexpectedCause}
use Rattle.cfg_types.specs.declared.errors.imds.UnexpectedCause.TheVariants as unexpected
use Rattle.cfg_world.specs.Fits.{Pair}
use Rattle.cfg_world.specs.Inquiry.{Inquiry, Done, after}
use Rattle.cfg_exchange.specs.Classifiers.{Repeats}
use Rattle.cfg_imds.specs.declared.imds.client.Client.{Client}
use Rattle.cfg_imds.specs.declared.endpoint.Endpoint.{Endpoint}
use Rattle.cfg_imds.specs.declared.endpoint.Endpoint.TheVariants.{At, NoUri, NoMode}
use Rattle.cfg_imds.specs.Classifiers.{repeated_by}
use Rattle.cfg_imds.specs.Fetches.{fetch_at, entry_text}
use Rattle.cfg_imds.specs.Paths.{is_path}
use Rattle.cfg_imds.specs.Requests.{Service, service}
use Rattle.cfg_imds.specs.Settles.{Given, Settled, settle_at}
use Rattle.cfg_imds.specs.Tokens.{Token}

-- a client as contracts see it: where the service is asked, and how
pub record ClientRules : Type 0 where
  pub endpoint : Endpoint
  pub service : Service

module _ {V : Type 0} {I : V → Type 0} where
  -- a client, by the meaning of a classifier that was handed in
  abbrev pub rules_of : (DynBox V Global I → Repeats) → Client V I → ClientRules
  rules_of boxed client = record { endpoint = client.endpoint; service = service client.settings (repeated_by boxed client.classifier) }

  -- the same, as the crates above say it: by the meaning of a value that is a classifier
  abbrev pub client_rules : ((v : V) × I v → Repeats) → Client V I → ClientRules
  client_rules repeated client = rules_of (λ b. repeated (b.vtable, b.value)) client

-- the text of an endpoint, whatever it is
abbrev pub place_of : Endpoint → List ℕ
place_of (At text) = text
place_of (NoUri text) = text
place_of (NoMode text) = text

-- why an endpoint cannot be asked
abbrev pub endpoint_fault : Endpoint → Option UnexpectedCause
endpoint_fault (At text) = None
endpoint_fault (NoUri text) = Some (unexpected.Endpoint (InvalidEndpointUri text))
endpoint_fault (NoMode text) = Some (unexpected.Endpoint (InvalidEndpointMode (mode.Mode text)))

-- why a text is not asked for
abbrev pub path_fault : List ℕ → Option UnexpectedCause
path_fault path = if is_path path then None else Some (unexpected.Path (characters path))

-- why a path is not asked for at this endpoint: the path, else the endpoint
unfoldable pub why_unusable : Endpoint → List ℕ → Option UnexpectedCause
why_unusable endpoint path = option_or (path_fault path) (endpoint_fault endpoint)

-- the error of a path that a client does not ask for
abbrev pub usable_error : ClientRules → List ℕ → Option ImdsError
usable_error client path = option_map Unexpected (why_unusable client.endpoint path)

-- the path may be asked for at this endpoint
abbrev pub is_usable : Endpoint → List ℕ → Bool
is_usable endpoint path = is_none (why_unusable endpoint path)

-- a session token of a client: a kept one of which enough is left, else a new one
abbrev pub settle : ClientRules → Option Token → Inquiry Settled
settle client kept = settle_at client.service (place_of client.endpoint) kept

-- what stands at a path, with this session token
abbrev pub fetch : ClientRules → List ℕ → List ℕ → Inquiry (Result Pair ImdsError)
fetch client path token = fetch_at client.service (place_of client.endpoint) path token

abbrev pub fetched_text : Result Pair ImdsError → Given
fetched_text (Ok e) = Ok (entry_text e)
fetched_text (Err error) = Err error

-- the text that stands at a path
unfoldable pub fetch_text : ClientRules → List ℕ → List ℕ → Inquiry Given
fetch_text client path token = after (fetch client path token) (λ r. Done (fetched_text r))

abbrev pub with_token : ClientRules → List ℕ → Settled → Inquiry Settled
with_token client path (Ok token, kept) = after (fetch_text client path token) (λ text. Done (text, kept))
with_token client path (Err error, kept) = Done (Err error, kept)

abbrev pub unless_unusable : Option UnexpectedCause → Inquiry Settled → Option Token → Inquiry Settled
unless_unusable (Some cause) asks kept = Done (Err (Unexpected cause), kept)
unless_unusable None asks kept = asks

-- The text that stands at a path, and the token that is kept then. Nothing is asked where the path or
-- the endpoint is not usable; else a session token is settled, and then the path is asked for.
unfoldable pub get : ClientRules → Option Token → List ℕ → Inquiry Settled
get client kept path = unless_unusable (why_unusable client.endpoint path) (after (settle client kept) (with_token client path)) kept
