-- What a provider of the region of instance metadata is set up with.
use Rattle.std.specs.Prelude.{◌≡◌, true, Option, None}
use Rattle.cfg_exchange.specs.Classifiers.{Repeats}
use Rattle.cfg_imds.specs.Clients.{ClientRules}
use Rattle.cfg_imds.specs.Setups.{IsAskedClient, given_client, asked_client}
use Rattle.cfg_profile.specs.Configuration.{Configuration, nothing_configured}
use Rattle.cfg_types.specs.Environment.{Variables}
use Rattle.cfg_region.specs.declared.imds.region.Builder.{Builder}
use Rattle.cfg_region.specs.declared.imds.region.ImdsRegionProvider.{ImdsRegionProvider}

-- what a provider asks by: the variables, which may switch metadata off, and the client
pub record MetadataRegion : Type 0 where
  pub variables : Variables
  pub client : ClientRules

-- what a builder is set to: the client where it was given
pub record MetadataRegionSetup : Type 0 where
  pub configuration : Configuration
  pub client : Option ClientRules

-- a builder that nothing was given to
abbrev pub nothing_given : MetadataRegionSetup
nothing_given = record { configuration = nothing_configured true; client = None }

module _ {V : Type 0} {I : V → Type 0} where
  -- a builder, by the meaning of a classifier that was handed in
  abbrev pub builder_of : ((v : V) × I v → Repeats) → Builder V I → MetadataRegionSetup
  builder_of repeated b = record { configuration = b.config; client = given_client repeated b.client }

  -- a provider, by that meaning
  abbrev pub provider_of : ((v : V) × I v → Repeats) → ImdsRegionProvider V I → MetadataRegion
  provider_of repeated p = record { variables = p.env; client = asked_client repeated p.client }

-- The provider of a setup: it asks by the client that was given, else by the one that the configuration names.
pub record IsMetadataRegion (setup : MetadataRegionSetup) (provider : MetadataRegion) : Type 0 where
  pub variables : provider.variables ≡ setup.configuration.environment
  pub client : IsAskedClient setup.client setup.configuration provider.client
