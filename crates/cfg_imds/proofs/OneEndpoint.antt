-- A configuration has one endpoint, and a setup one client.
use Rattle.std.proofs.Common.{◌≡◌, ℕ, List, Option, Some, None, sym, ap, ◌∙◌}
use Rattle.std.specs.Prelude.{Result, Ok, Err}
use Rattle.cfg_types.specs.declared.errors.imds.EndpointMode.{EndpointMode}
use Rattle.cfg_profile.specs.Configuration.{Configuration}
use Rattle.cfg_imds.specs.declared.endpoint.Endpoint.{Endpoint}
use Rattle.cfg_imds.specs.declared.endpoint.Endpoint.TheVariants.{At, NoUri, NoMode}
use Rattle.cfg_imds.specs.Clients.{ClientRules}
use Rattle.cfg_imds.specs.Setups.{ClientSetup, IsClient, configured, IsAskedClient}
use Rattle.cfg_imds.specs.Endpoints.{endpoint_text, IsEndpointAt, IsEndpointBy, IsEndpoint}

one_at : (text : List ℕ) (a b : Endpoint) → IsEndpointAt text a → IsEndpointAt text b → a ≡ b
one_at text (At x) (At y) h g = ap At (h.0 ∙ sym g.0)
one_at text (At x) (NoUri y) h g = absurd (g.1 h.1)
one_at text (At x) (NoMode y) h g = absurd g
one_at text (NoUri x) (At y) h g = absurd (h.1 g.1)
one_at text (NoUri x) (NoUri y) h g = ap NoUri (h.0 ∙ sym g.0)
one_at text (NoUri x) (NoMode y) h g = absurd g
one_at text (NoMode x) b h g = absurd h

one_by : (said : Result (List ℕ) (List ℕ)) (a b : Endpoint) → IsEndpointBy said a → IsEndpointBy said b → a ≡ b
one_by (Ok text) a b h g = one_at text a b h g
one_by (Err text) a b h g = h ∙ sym g

one_record : (a b : ClientRules) → a.endpoint ≡ b.endpoint → a.service ≡ b.service → a ≡ b
one_record a b endpoint service = λ i. record { endpoint = endpoint i; service = service i }

pub one_endpoint : (conf : Configuration) (given : Option (List ℕ)) (mode : Option EndpointMode) (a b : Endpoint) → IsEndpoint conf given mode a → IsEndpoint conf given mode b → a ≡ b
one_endpoint conf given mode a b h g = one_by (endpoint_text conf given mode) a b h g

pub one_client : (setup : ClientSetup) (a b : ClientRules) → IsClient setup a → IsClient setup b → a ≡ b
one_client setup a b h g = one_record a b (one_endpoint setup.configuration setup.endpoint setup.mode a.endpoint b.endpoint h.endpoint g.endpoint) (h.service ∙ sym g.service)

pub one_asked : (given : Option ClientRules) (conf : Configuration) (a b : ClientRules) → IsAskedClient given conf a → IsAskedClient given conf b → a ≡ b
one_asked (Some client) conf a b h g = h ∙ sym g
one_asked None conf a b h g = one_client (configured conf) a b h g
