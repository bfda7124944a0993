-- What a chain is over, and what a call of it is.
use Rattle.std.specs.Prelude.{◌≡◌, ℕ, List, [], map, Option, Some, None}
use Rattle.cfg_exchange.specs.declared.container.ContainerSettings.{ContainerSettings}
use Rattle.cfg_exchange.specs.declared.container.ContainerUri.{ContainerUri}
use Rattle.cfg_exchange.specs.Containers.{IsContainerUri}
use Rattle.cfg_imds.specs.Clients.{ClientRules}
use Rattle.cfg_imds.specs.Regions.{is_disabled}
use Rattle.cfg_imds.specs.Setups.{configured, IsClient}
use Rattle.cfg_kept.specs.declared.place.Place.{Place}
use Rattle.cfg_kept.specs.declared.place.Place.TheVariants.{Chain, Named}
use Rattle.cfg_imds_credentials.specs.Settings as metadata
use Rattle.cfg_imds_credentials.specs.Settings.{MetadataSetting}
use Rattle.cfg_profile.specs.Configuration.{Configuration}
use Rattle.cfg_providers.specs.ContainerSetups.{container_setup, settings_in}
use Rattle.cfg_providers.specs.CustomSources.{NamedAnswer}

-- Where the services are asked: the address at which the variables say that a container's credentials
-- are; the metadata client of the chain's own member; and that of a source that a profile names.
pub record Services : Type 0 where
  pub container : ContainerUri
  pub client : ClientRules
  pub named_client : ClientRules

-- The setting of a chain: its configuration, the caller's own sources, each with what it answers, and how the
-- metadata client asks that the chain was given, where it was given one.
pub record ChainSetting : Type 0 where
  pub configuration : Configuration
  pub sources : List NamedAnswer
  pub client : Option ClientRules

-- a chain of this configuration and these sources, without a metadata client of its own
abbrev pub with_sources : Configuration → List NamedAnswer → ChainSetting
with_sources conf sources = record { configuration = conf; sources = sources; client = None }

-- a chain of this configuration alone
abbrev pub alone : Configuration → ChainSetting
alone conf = with_sources conf []

-- the client that was given, and else the configuration's
abbrev pub given_or : Option ClientRules → ClientRules → ClientRules
given_or (Some given) own = given
given_or None own = own

-- The services that a configuration names, with the client that the chain was given, if it was given one:
-- there is one answer.
pub record AreServices (over : ChainSetting) (services : Services) : Type 0 where
  pub container : IsContainerUri over.configuration.environment services.container
  pub named_client : IsClient (configured over.configuration) services.named_client
  pub client : services.client ≡ given_or over.client services.named_client

-- The configuration, the caller's own sources, each with what it answers, and the services.
pub record Setting : Type 0 where
  pub configuration : Configuration
  pub sources : List NamedAnswer
  pub container : ContainerUri
  pub client : ClientRules
  pub named_client : ClientRules

abbrev pub setting : ChainSetting → Services → Setting
setting over services = record {
  configuration = over.configuration;
  sources = over.sources;
  container = services.container;
  client = services.client;
  named_client = services.named_client;
}

-- the names of sources
abbrev pub names_of : List NamedAnswer → List (List ℕ)
names_of sources = map (λ s. s.0) sources

-- how a container is asked: with a resolver, 2 seconds to connect and 5 seconds to read
abbrev pub container_settings : Configuration → ContainerSettings
container_settings conf = settings_in (container_setup conf)

-- how metadata is asked for by a client, for the role that the service lists
abbrev pub metadata_setting : Configuration → ClientRules → Place → MetadataSetting
metadata_setting conf client place = metadata.setting (is_disabled conf.environment) client None place

-- how the chain's own member asks for metadata
abbrev pub chain_metadata : Setting → MetadataSetting
chain_metadata s = metadata_setting s.configuration s.client Chain

-- how a source that a profile names does
abbrev pub named_metadata : Setting → MetadataSetting
named_metadata s = metadata_setting s.configuration s.named_client Named
