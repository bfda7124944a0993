-- What providers are given, as contracts see it.
use Rattle.std.specs.Prelude.{ℕ, List, Bool, Option, None, refl, codes}
use Rattle.std.specs.Coded.{Coded, code_by, coded×, coded_ℕ, coded_bool, coded_list, coded_option}
use Rattle.std.specs.FinMap.{empty}
use Rattle.cfg_base.specs.TextMap.{Named, named_code}
use Rattle.cfg_types.specs.declared.environment.EnvText.{EnvText}
use Rattle.cfg_types.specs.contracts.environment.EnvText as variable
use Rattle.cfg_types.specs.declared.settings.BehaviorVersion.{BehaviorVersion}
use Rattle.cfg_types.specs.contracts.settings.BehaviorVersion as behavior
use Rattle.cfg_types.specs.declared.settings.RetryConfig.{RetryConfig}
use Rattle.cfg_types.specs.contracts.settings.RetryConfig as retry
use Rattle.cfg_types.specs.declared.settings.Timeouts.{Timeouts}
use Rattle.cfg_types.specs.contracts.settings.Timeouts as limits
use Rattle.cfg_profile.specs.declared.sections.ProfileSource.{ProfileSource}
use Rattle.cfg_profile.specs.declared.sections.ProfileSource.TheVariants.{Sections}
use Rattle.cfg_profile.specs.contracts.sections.ProfileSource as source

pub record Configuration : Type 0 where
  -- by the bytes of their names
  pub environment : Named EnvText
  pub profiles : ProfileSource
  -- the name of a profile in place of the environment's
  pub profile_name : Option (List ℕ)
  pub region : Option (List ℕ)
  pub use_fips : Option Bool
  pub use_dual_stack : Option Bool
  pub retry_config : Option RetryConfig
  pub timeout_config : Option Timeouts
  pub behavior_version : Option BehaviorVersion
  -- whether providers may sleep between attempts
  pub sleep : Bool

-- how the calls of a configuration are sent
abbrev pub call_code : Coded (Option Bool × (Option Bool × (Option RetryConfig × (Option Timeouts × Option BehaviorVersion))))
call_code = coded× (coded_option coded_bool) (coded× (coded_option coded_bool) (coded× (coded_option retry.the_row.coded) (coded× (coded_option limits.the_row.coded) (coded_option behavior.the_row.coded))))

abbrev pub configuration_code : Coded Configuration
configuration_code = code_by (Named EnvText × (ProfileSource × (Option (List ℕ) × (Option (List ℕ) × ((Option Bool × (Option Bool × (Option RetryConfig × (Option Timeouts × Option BehaviorVersion)))) × Bool)))))
    (coded× (named_code variable.the_row.coded) (coded× source.the_row.coded (coded× (coded_option (coded_list coded_ℕ)) (coded× (coded_option (coded_list coded_ℕ)) (coded× call_code coded_bool)))))
    (λ c. (c.environment, (c.profiles, (c.profile_name, (c.region, ((c.use_fips, (c.use_dual_stack, (c.retry_config, (c.timeout_config, c.behavior_version)))), c.sleep))))))
    (λ p. record {
      environment = p.0;
      profiles = p.1.0;
      profile_name = p.1.1.0;
      region = p.1.1.1.0;
      use_fips = p.1.1.1.1.0.0;
      use_dual_stack = p.1.1.1.1.0.1.0;
      retry_config = p.1.1.1.1.0.1.1.0;
      timeout_config = p.1.1.1.1.0.1.1.1.0;
      behavior_version = p.1.1.1.1.0.1.1.1.1;
      sleep = p.1.1.1.1.1;
    }) (λ _. refl)

-- no variables, no sections, no region and no settings of calls
abbrev pub nothing_configured : Bool → Configuration
nothing_configured sleep = record {
  environment = empty;
  profiles = Sections (record { profiles = empty; sessions = empty; selected = codes "default" });
  profile_name = None;
  region = None;
  use_fips = None;
  use_dual_stack = None;
  retry_config = None;
  timeout_config = None;
  behavior_version = None;
  sleep = sleep;
}
