-- What the builder of a provider that reads a profile was set to, and what it builds: of a region,
-- of credentials, of a token.
use Rattle.std.specs.Option.{option_or}
use Rattle.std.specs.Prelude.{ℕ, List, true, Option, None, unwrap_or, refl}
use Rattle.std.specs.Coded.{Coded, code_by, coded×, coded_ℕ, coded_list, coded_option}
use Rattle.cfg_profile.specs.Configuration.{Configuration, configuration_code, nothing_configured}
use Rattle.cfg_profile.specs.declared.sections.ProfileSource.{ProfileSource}
use Rattle.cfg_profile.specs.contracts.sections.ProfileSource as source

pub record ProfileSetup : Type 0 where
  pub configuration : Configuration
  -- in place of the configuration's
  pub profile_name : Option (List ℕ)
  pub profiles : Option ProfileSource

abbrev pub profile_setup_code : Coded ProfileSetup
profile_setup_code = code_by (Configuration × (Option (List ℕ) × Option ProfileSource))
    (coded× configuration_code (coded× (coded_option (coded_list coded_ℕ)) (coded_option source.the_row.coded)))
    (λ s. (s.configuration, (s.profile_name, s.profiles)))
    (λ p. record { configuration = p.0; profile_name = p.1.0; profiles = p.1.1 }) (λ _. refl)

-- a builder that nothing was given to
abbrev pub no_profile_set : ProfileSetup
no_profile_set = record { configuration = nothing_configured true; profile_name = None; profiles = None }

-- the configuration with this name of a profile, where one is given, in place of its own
abbrev pub with_name : Option (List ℕ) → Configuration → Configuration
with_name name conf = record conf { profile_name = option_or name conf.profile_name }

-- what the provider that is built is configured by
abbrev pub profile_configured : ProfileSetup → Configuration
profile_configured s = record (with_name s.profile_name s.configuration) { profiles = unwrap_or s.profiles s.configuration.profiles }
