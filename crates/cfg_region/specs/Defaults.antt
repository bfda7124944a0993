-- The default region chain: the environment, the selected profile, instance metadata.
use Rattle.std.specs.Prelude.{◌≡◌, List, [], ◌∷◌, None, refl}
use Rattle.std.specs.Coded.{Coded, code_by, coded×}
use Rattle.cfg_world.specs.Inquiry.{Inquiry, Done}
use Rattle.cfg_profile.specs.Configuration.{Configuration, configuration_code}
use Rattle.cfg_imds.specs.declared.endpoint.Endpoint.{Endpoint}
use Rattle.cfg_imds.specs.contracts.endpoint.Endpoint as place
use Rattle.cfg_imds.specs.Endpoints.{IsEndpoint}
use Rattle.cfg_imds.specs.Setups.{client_of}
use Rattle.cfg_region.specs.Chains.{first_given}
use Rattle.cfg_region.specs.Environments.{Told, environment_region}
use Rattle.cfg_region.specs.Metadata.{metadata_region}
use Rattle.cfg_region.specs.Profiles.{profile_region}

pub record DefaultRegions : Type 0 where
  pub configuration : Configuration
  -- where instance metadata is asked
  pub endpoint : Endpoint

abbrev pub default_regions_code : Coded DefaultRegions
default_regions_code = code_by (Configuration × Endpoint)
    (coded× configuration_code place.the_row.coded)
    (λ d. (d.configuration, d.endpoint))
    (λ p. record { configuration = p.0; endpoint = p.1 }) (λ _. refl)

-- what metadata is asked: by a client with nothing set, where the chain has it
abbrev pub default_metadata : DefaultRegions → Inquiry Told
default_metadata d = metadata_region d.configuration.environment (client_of d.endpoint)

-- what the chain asks behind the variables, in order
abbrev pub later_trees : DefaultRegions → List (Inquiry Told)
later_trees d = Done (profile_region d.configuration) ∷ default_metadata d ∷ []

-- what the chain asks, in order
abbrev pub default_trees : DefaultRegions → List (Inquiry Told)
default_trees d = Done (environment_region d.configuration.environment) ∷ later_trees d

unfoldable pub default_tree : DefaultRegions → Inquiry Told
default_tree d = first_given (default_trees d)

-- A default chain over this configuration. Metadata is asked where the configuration says: there is one answer.
pub record IsDefault (conf : Configuration) (d : DefaultRegions) : Type 0 where
  pub configuration : d.configuration ≡ conf
  pub endpoint : IsEndpoint conf None None d.endpoint
