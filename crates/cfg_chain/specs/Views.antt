-- Chains and calls, as contracts see them.
use Rattle.std.specs.Prelude.{List, None, map, option_map}
use Rattle.std.specs.Option.{option_copied}
use Rattle.std.specs.declared.alloc.Global.{Global}
use Rattle.std.specs.declared.dyn_box.DynBox.{DynBox}
use Rattle.cfg_exchange.specs.Classifiers.{Repeats}
use Rattle.cfg_imds.specs.Clients.{rules_of, client_rules}
use Rattle.cfg_imds.specs.Setups.{client_of}
use Rattle.cfg_providers.specs.declared.custom.CustomSource.{CustomSource}
use Rattle.cfg_providers.specs.CustomSources.{Answer, NamedAnswer, named}
use Rattle.cfg_chain.specs.declared.call.ChainCall.{ChainCall}
use Rattle.cfg_chain.specs.declared.default_provider.credentials.DefaultCredentialsChain.{DefaultCredentialsChain}
use Rattle.cfg_chain.specs.declared.profile.credentials.ProfileFileCredentialsProvider.{ProfileFileCredentialsProvider}
use Rattle.cfg_chain.specs.Settings.{ChainSetting, Setting, given_or}

-- what an interface means, of a box
abbrev pub of_box : {V X : Type 0} {I : V → Type 0} → ((v : V) × I v → X) → DynBox V Global I → X
of_box meaning box = meaning (box.vtable, box.value)

module _ {V : Type 0} {I : V → Type 0} where
  -- the names of sources, each with what it answers by the meaning of its box
  abbrev pub sources_by : (DynBox V Global I → Answer) → List (CustomSource V I) → List NamedAnswer
  sources_by value sources = map (named value) sources

  -- the same by the meaning of its interface
  abbrev pub named_sources : ((v : V) × I v → Answer) → List (CustomSource V I) → List NamedAnswer
  named_sources value sources = sources_by (of_box value) sources

  -- a provider of a profile's credentials, by what its caller's sources answer; it is given no client
  abbrev pub provider_by : (DynBox V Global I → Answer) → ProfileFileCredentialsProvider V I → ChainSetting
  provider_by value p = record { configuration = p.core; sources = sources_by value p.custom_sources.items; client = None }

  abbrev pub provider_of : ((v : V) × I v → Answer) → ProfileFileCredentialsProvider V I → ChainSetting
  provider_of value p = provider_by (of_box value) p

module _ {V W : Type 0} {I : V → Type 0} {J : W → Type 0} where
  -- a default chain, by what its caller's sources answer and what a classifier repeats
  abbrev pub chain_by : (DynBox V Global I → Answer) → (DynBox W Global J → Repeats) → DefaultCredentialsChain V W I J → ChainSetting
  chain_by value repeated c = record {
    configuration = c.core;
    sources = sources_by value c.custom_sources.items;
    client = option_map (λ client. rules_of repeated client) c.imds_client;
  }

  abbrev pub chain_of : ((v : V) × I v → Answer) → ((w : W) × J w → Repeats) → DefaultCredentialsChain V W I J → ChainSetting
  chain_of value repeated c = chain_by (of_box value) (of_box repeated) c

  -- what a call is over
  abbrev pub view : ((v : V) × I v → Answer) → ((w : W) × J w → Repeats) → ChainCall V W I J → Setting
  view value repeated c = record {
    configuration = c.config.now;
    sources = named_sources value c.custom_sources.now;
    container = c.settled.now.container;
    client = given_or (option_map (λ client. client_rules repeated client) (option_copied c.imds_client)) (client_of c.settled.now.imds_endpoint);
    named_client = client_of c.settled.now.imds_endpoint;
  }
