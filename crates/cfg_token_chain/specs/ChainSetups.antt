-- What a builder of the default chain of bearer tokens was set to, and what it builds.
use Rattle.std.specs.Prelude.{ℕ, List, true, Option, None, option_map, string_bytes}
use Rattle.cfg_exchange.specs.Classifiers.{Repeats}
use Rattle.cfg_profile.specs.Configuration.{Configuration, nothing_configured}
use Rattle.cfg_region.specs.Environments.{Told}
use Rattle.cfg_region.specs.Sources.{Source, region_source}
use Rattle.cfg_token_chain.specs.declared.default_provider.token.Builder.{Builder}
use Rattle.cfg_region.specs.ProfileSetups.{with_name}

pub record ChainSetup : Type 0 where
  pub configuration : Configuration
  -- in place of the configuration's
  pub profile_name : Option (List ℕ)
  -- what is asked for the region
  pub region : Option Source

-- a builder that nothing was given to
abbrev pub nothing_given : ChainSetup
nothing_given = record { configuration = nothing_configured true; profile_name = None; region = None }

-- a builder that this configuration alone was given to
abbrev pub configuration_alone : Configuration → ChainSetup
configuration_alone conf = record nothing_given { configuration = conf }

-- what the chain that is built is configured by, but for its region
abbrev pub chain_configured : ChainSetup → Configuration
chain_configured s = with_name s.profile_name s.configuration

module _ {V W : Type 0} {I : V → Type 0} {J : W → Type 0} where
  -- a builder, with what a caller's own source of a region tells and what a classifier repeats by the
  -- meaning of their interfaces
  abbrev pub setup_of : ((w : W) × J w → Told) → ((v : V) × I v → Repeats) → Builder V W I J → ChainSetup
  setup_of told repeated b = record {
    configuration = b.config;
    profile_name = option_map (λ s. string_bytes s) b.profile_name;
    region = option_map (region_source told repeated) b.region;
  }
