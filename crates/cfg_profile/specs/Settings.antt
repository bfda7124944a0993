-- How the calls of a configuration are sent.
use Rattle.std.specs.Prelude.{ℕ, Option, Some, None}
use Rattle.cfg_types.specs.declared.settings.CallSettings.{CallSettings}
use Rattle.cfg_types.specs.declared.settings.RetryConfig.{RetryConfig}
use Rattle.cfg_types.specs.declared.settings.Timeouts.{Timeouts}
use Rattle.cfg_profile.specs.Configuration.{Configuration}

-- how often a call may be tried in all: three times where nothing is said, as the standard retry mode
-- of the AWS SDKs does
abbrev pub attempts_of : Option RetryConfig → ℕ
attempts_of None = 3
attempts_of (Some retry) = retry.max_attempts

-- the limits of time: none where nothing is said
abbrev pub timeouts_of : Option Timeouts → Timeouts
timeouts_of None = record { connect_ms = None; read_ms = None; operation_ms = None; attempt_ms = None }
timeouts_of (Some timeouts) = timeouts

-- how the calls of a configuration are sent
abbrev pub settings_of : Configuration → CallSettings
settings_of conf = record {
  region = conf.region;
  use_fips = conf.use_fips;
  use_dual_stack = conf.use_dual_stack;
  max_attempts = attempts_of conf.retry_config;
  timeouts = timeouts_of conf.timeout_config;
}
