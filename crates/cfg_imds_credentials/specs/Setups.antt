-- What a provider of metadata credentials is set up with.
use Rattle.std.specs.Prelude.{◌≡◌, ℕ, List, true, Option, None}
use Rattle.cfg_profile.specs.Configuration.{Configuration, nothing_configured}
use Rattle.cfg_exchange.specs.Classifiers.{Repeats}
use Rattle.cfg_imds.specs.Clients.{ClientRules}
use Rattle.cfg_imds.specs.Regions.{is_disabled}
use Rattle.cfg_imds.specs.Setups.{IsAskedClient, given_client, asked_client}
use Rattle.cfg_kept.specs.declared.place.Place.{Place}
use Rattle.cfg_kept.specs.declared.place.Place.TheVariants.{Chain}
use Rattle.cfg_imds_credentials.specs.declared.imds.builder.Builder.{Builder}
use Rattle.cfg_imds_credentials.specs.declared.imds.credentials.ImdsCredentialsProvider.{ImdsCredentialsProvider}
use Rattle.cfg_imds_credentials.specs.Settings.{MetadataSetting, setting}

-- what a builder is set to: the role and the client where they were given
pub record MetadataSetup : Type 0 where
  pub configuration : Configuration
  pub role : Option (List ℕ)
  pub client : Option ClientRules
  pub place : Place

-- a builder that nothing was given to
abbrev pub default_metadata : MetadataSetup
default_metadata = record { configuration = nothing_configured true; role = None; client = None; place = Chain }

module _ {V : Type 0} {I : V → Type 0} where
  -- a builder, by the meaning of a classifier that was handed in
  abbrev pub setup_of : ((v : V) × I v → Repeats) → Builder V I → MetadataSetup
  setup_of boxed b = record { configuration = b.config; role = b.role; client = given_client boxed b.client; place = b.place }

  -- a provider that asks by this client
  abbrev pub setting_by : ClientRules → ImdsCredentialsProvider V I → MetadataSetting
  setting_by client p = setting p.disabled client p.role p.place

  -- a provider, by that meaning
  abbrev pub setting_of : ((v : V) × I v → Repeats) → ImdsCredentialsProvider V I → MetadataSetting
  setting_of boxed p = setting_by (asked_client boxed p.client) p

-- The provider of a setup: it is switched off by the variables of the configuration, and asks by the client
-- that was given, else by the one that the configuration names.
pub record IsMetadataProvider (setup : MetadataSetup) (provider : MetadataSetting) : Type 0 where
  pub disabled : provider.disabled ≡ is_disabled setup.configuration.environment
  pub client : IsAskedClient setup.client setup.configuration provider.client
  pub role : provider.role ≡ setup.role
  pub place : provider.place ≡ setup.place
