-- How the service is asked where nothing else is said.
use Rattle.std.specs.Prelude.{Some}
use Rattle.cfg_imds.specs.declared.requests.ImdsSettings.{ImdsSettings}

-- tokens of six hours, four attempts; a second to connect and to read, thirty for all, and ten for each attempt
abbrev pub default_settings : ImdsSettings
default_settings = record {
  ttl_seconds = 21600;
  max_attempts = 4;
  timeouts = record { connect_ms = Some 1000; read_ms = Some 1000; operation_ms = Some 30000; attempt_ms = Some 10000 };
}
