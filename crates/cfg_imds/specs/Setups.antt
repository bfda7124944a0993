-- What a client is set up with.
use Rattle.std.specs.Prelude.{◌≡◌, ℕ, List, true, false, Option, Some, None, option_map}
use Rattle.std.specs.declared.alloc.Global.{Global}
use Rattle.std.specs.declared.dyn_box.DynBox.{DynBox}
use Rattle.cfg_types.specs.declared.errors.imds.EndpointMode.{EndpointMode}
use Rattle.cfg_types.specs.declared.settings.Timeouts.{Timeouts}
use Rattle.cfg_profile.specs.Configuration.{Configuration, nothing_configured}
use Rattle.cfg_exchange.specs.Classifiers.{Repeats, metadata_repeats}
use Rattle.cfg_imds.specs.declared.imds.builder.Builder.{Builder}
use Rattle.cfg_imds.specs.declared.asked.AskedClient.{AskedClient}
use Rattle.cfg_imds.specs.declared.asked.AskedClient.TheVariants as asked
use Rattle.cfg_imds.specs.declared.endpoint.Endpoint.{Endpoint}
use Rattle.cfg_imds.specs.declared.imds.client.Client.{Client}
use Rattle.cfg_imds.specs.declared.requests.ImdsSettings.{ImdsSettings}
use Rattle.cfg_imds.specs.Classifiers.{repeated_by}
use Rattle.cfg_imds.specs.Clients.{ClientRules, rules_of, client_rules}
use Rattle.cfg_imds.specs.Defaults.{default_settings}
use Rattle.cfg_imds.specs.Endpoints.{IsEndpoint}
use Rattle.cfg_imds.specs.Requests.{service}

-- what a builder is set to
pub record ClientSetup : Type 0 where
  pub configuration : Configuration
  -- the endpoint and the mode, where they were given
  pub endpoint : Option (List ℕ)
  pub mode : Option EndpointMode
  pub settings : ImdsSettings
  -- which attempts are repeated
  pub repeats : Repeats

module _ {V : Type 0} {I : V → Type 0} where
  -- a builder, by the meaning of a classifier that was handed in
  abbrev pub setup_of : (DynBox V Global I → Repeats) → Builder V I → ClientSetup
  setup_of boxed b = record {
    configuration = b.config;
    endpoint = b.endpoint;
    mode = b.mode;
    settings = b.settings;
    repeats = repeated_by boxed b.classifier;
  }

-- a builder that nothing was given to
abbrev pub default_setup : ClientSetup
default_setup = record {
  configuration = nothing_configured true;
  endpoint = None;
  mode = None;
  settings = default_settings;
  repeats = metadata_repeats (record { retry_connect_timeouts = false });
}

-- a builder that a configuration alone was given to
abbrev pub configured : Configuration → ClientSetup
configured conf = record {
  configuration = conf;
  endpoint = None;
  mode = None;
  settings = default_settings;
  repeats = default_setup.repeats;
}

-- the client that asks at this endpoint, with nothing else set
abbrev pub client_of : Endpoint → ClientRules
client_of endpoint = record { endpoint = endpoint; service = service default_settings default_setup.repeats }

-- the settings of a setup changed alone
abbrev pub with_settings : (ImdsSettings → ImdsSettings) → ClientSetup → ClientSetup
with_settings change setup = record {
  configuration = setup.configuration;
  endpoint = setup.endpoint;
  mode = setup.mode;
  settings = change setup.settings;
  repeats = setup.repeats;
}

-- the limits of time of some settings changed alone
abbrev pub with_limits : (Timeouts → Timeouts) → ImdsSettings → ImdsSettings
with_limits change s = record { ttl_seconds = s.ttl_seconds; max_attempts = s.max_attempts; timeouts = change s.timeouts }

-- The client of a setup: it asks at its endpoint, as the setup says.
pub record IsClient (setup : ClientSetup) (client : ClientRules) : Type 0 where
  pub endpoint : IsEndpoint setup.configuration setup.endpoint setup.mode client.endpoint
  pub service : client.service ≡ service setup.settings setup.repeats

-- the client that a provider asks by: the one that was given, else the one that its configuration names
abbrev pub IsAskedClient : Option ClientRules → Configuration → ClientRules → Type 0
IsAskedClient (Some given) conf client = client ≡ given
IsAskedClient None conf client = IsClient (configured conf) client

module _ {V : Type 0} {I : V → Type 0} where
  -- the client that a provider asks by, by the meaning of a classifier that was handed in
  abbrev pub asked_rules : (DynBox V Global I → Repeats) → AskedClient V I → ClientRules
  asked_rules boxed (asked.Given client) = rules_of boxed client
  asked_rules boxed (asked.Own endpoint) = client_of endpoint

  -- the same, as the crates above say it: by the meaning of a value that is a classifier
  abbrev pub asked_client : ((v : V) × I v → Repeats) → AskedClient V I → ClientRules
  asked_client repeated client = asked_rules (λ b. repeated (b.vtable, b.value)) client

  -- the client that was given, where one was, by the same meaning
  abbrev pub given_client : ((v : V) × I v → Repeats) → Option (Client V I) → Option ClientRules
  given_client repeated client = option_map (client_rules repeated) client
