-- What a provider of a container's credentials was set to, and what its call leaves of a journal.
use Rattle.std.specs.Prelude.{◌≡◌, ◌⊎◌, ℕ, Bool, true, Result, refl}
use Rattle.std.specs.Coded.{Coded, code_by, coded×, coded_ℕ, coded_bool}
use Rattle.cfg_types.specs.Keys.{Keys}
use Rattle.cfg_types.specs.declared.errors.CredentialsError.{CredentialsError}
use Rattle.cfg_world.specs.declared.devices.Devices.{Ghosts}
use Rattle.cfg_world.specs.Held.{Held}
use Rattle.cfg_world.specs.Inquiry.{Inquiry}
use Rattle.cfg_profile.specs.Configuration.{Configuration, configuration_code}
use Rattle.cfg_exchange.specs.declared.container.ContainerSettings.{ContainerSettings}
use Rattle.cfg_exchange.specs.declared.container.ContainerUri.{ContainerUri}
use Rattle.cfg_exchange.specs.Containers.{IsContainerUri, container}
use Rattle.cfg_exchange.specs.ContainerCauses.{why_container}
use Rattle.cfg_providers.specs.Provides.{Provides, Interrupted}

pub record ContainerSetup : Type 0 where
  pub configuration : Configuration
  -- whether names of hosts can be looked up
  pub dns : Bool
  -- the limits of time to connect and to read, in milliseconds
  pub connect_ms : ℕ
  pub read_ms : ℕ

abbrev pub container_setup_code : Coded ContainerSetup
container_setup_code = code_by (Configuration × (Bool × (ℕ × ℕ)))
    (coded× configuration_code (coded× coded_bool (coded× coded_ℕ coded_ℕ)))
    (λ s. (s.configuration, (s.dns, (s.connect_ms, s.read_ms))))
    (λ p. record { configuration = p.0; dns = p.1.0; connect_ms = p.1.1.0; read_ms = p.1.1.1 }) (λ _. refl)

-- a resolver, 2 seconds to connect and 5 seconds to read
abbrev pub container_setup : Configuration → ContainerSetup
container_setup conf = record { configuration = conf; dns = true; connect_ms = 2000; read_ms = 5000 }

-- how the credentials are asked for, by a setup
abbrev pub settings_in : ContainerSetup → ContainerSettings
settings_in setup = record { dns = setup.dns; sleep = setup.configuration.sleep; connect_ms = setup.connect_ms; read_ms = setup.read_ms }

-- what is asked, and what it gives, where it is known what the variables name
abbrev pub asks_container : ContainerSetup → ContainerUri → Inquiry (Result Keys CredentialsError)
asks_container setup named = container setup.configuration.environment (settings_in setup) named

-- The journal grew by the part of a container, at what the variables name.
pub record ProvidesContainer {D : Type 0} (d : Ghosts D) (setup : ContainerSetup) (old new : Held D) (out : Result Keys CredentialsError) : Type 0 where
  pub named : ContainerUri
  pub names : IsContainerUri setup.configuration.environment named
  pub provides : Provides d (asks_container setup named) (why_container setup.configuration.environment (settings_in setup) named) old new out

-- Memory ran out: before it was known what the variables name, and nothing was asked; or over the
-- beginning of a part.
abbrev pub InterruptedContainer : {D : Type 0} → Ghosts D → ContainerSetup → Held D → Held D → Type 0
InterruptedContainer d setup old new =
    (new ≡ old) ⊎ ((named : ContainerUri) × IsContainerUri setup.configuration.environment named × Interrupted d (asks_container setup named) old new)
