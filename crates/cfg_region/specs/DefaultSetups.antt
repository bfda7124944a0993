-- What a builder of the default region chain was set to.
use Rattle.std.specs.Prelude.{ℕ, List, true, Option, None, refl}
use Rattle.std.specs.Coded.{Coded, code_by, coded×, coded_ℕ, coded_list, coded_option}
use Rattle.cfg_profile.specs.Configuration.{Configuration, configuration_code, nothing_configured}
use Rattle.cfg_region.specs.ProfileSetups.{with_name}

pub record DefaultSetup : Type 0 where
  pub configuration : Configuration
  -- in place of the configuration's
  pub profile_name : Option (List ℕ)

abbrev pub default_setup_code : Coded DefaultSetup
default_setup_code = code_by (Configuration × Option (List ℕ))
    (coded× configuration_code (coded_option (coded_list coded_ℕ)))
    (λ s. (s.configuration, s.profile_name))
    (λ p. record { configuration = p.0; profile_name = p.1 }) (λ _. refl)

-- a builder that nothing was given to
abbrev pub nothing_set : DefaultSetup
nothing_set = record { configuration = nothing_configured true; profile_name = None }

-- what the chain that is built is configured by
abbrev pub default_configured : DefaultSetup → Configuration
default_configured s = with_name s.profile_name s.configuration
