-- What the instance metadata service is sent.
use Rattle.std.specs.Prelude.{ℕ, List}
use Rattle.cfg_base.specs.Text.{characters}
use Rattle.cfg_types.specs.declared.request.Request.{Request}
use Rattle.cfg_types.specs.declared.request.Request.TheVariants as request
use Rattle.cfg_world.specs.Fits.{Pair}
use Rattle.cfg_world.specs.Inquiry.{Inquiry}
use Rattle.cfg_exchange.specs.declared.reading.ReplyKind.{ReplyKind}
use Rattle.cfg_exchange.specs.declared.reading.ReplyKind.TheVariants as kind
use Rattle.cfg_exchange.specs.Classifiers.{Repeats}
use Rattle.cfg_exchange.specs.Exchanges.{exchange}
use Rattle.cfg_imds.specs.declared.requests.ImdsSettings.{ImdsSettings}

-- how the service is asked, and which attempts are repeated
pub record Service : Type 0 where
  pub settings : ImdsSettings
  pub repeats : Repeats

abbrev pub service : ImdsSettings → Repeats → Service
service settings repeats = record { settings = settings; repeats = repeats }

-- the request for a session token
abbrev pub token_request : ImdsSettings → List ℕ → Request
token_request settings endpoint = request.MetadataToken (record { endpoint = endpoint; ttl_seconds = settings.ttl_seconds; timeouts = settings.timeouts })

-- the request for what stands at a path, with a session token
abbrev pub get_request : ImdsSettings → List ℕ → List ℕ → List ℕ → Request
get_request settings endpoint path token = request.MetadataGet (record { endpoint = endpoint; path = characters path; token = token; timeouts = settings.timeouts })

-- one request in attempts
unfoldable pub tries : Service → ReplyKind → Request → Inquiry Pair
tries s kind asked = exchange s.settings.max_attempts asked kind s.repeats

-- the attempts at a session token
abbrev pub token_attempts : Service → List ℕ → Inquiry Pair
token_attempts s endpoint = tries s kind.MetadataToken (token_request s.settings endpoint)

-- the attempts at what stands at a path
abbrev pub get_attempts : Service → List ℕ → List ℕ → List ℕ → Inquiry Pair
get_attempts s endpoint path token = tries s kind.MetadataText (get_request s.settings endpoint path token)
