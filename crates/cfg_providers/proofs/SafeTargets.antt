-- Where a call of the provider of a container's credentials sends its requests.
use Rattle.std.proofs.Common.{inl, inr, List, Result, ap}
use Rattle.cfg_types.specs.Keys.{Keys}
use Rattle.cfg_types.specs.declared.errors.CredentialsError.{CredentialsError}
use Rattle.cfg_world.specs.declared.devices.Devices.{Ghosts}
use Rattle.cfg_world.specs.Fits.{Pair}
use Rattle.cfg_world.specs.Held.{Held}
use Rattle.cfg_exchange.specs.SafeJournals.{AsksSafely}
use Rattle.cfg_world.specs.Gains.{Gains}
use Rattle.cfg_exchange.proofs.Checks.{read_begun}
use Rattle.cfg_exchange.proofs.SafeJournals.{part_safely}
use Rattle.cfg_world.proofs.Gains.{grew_by_nothing}
use Rattle.cfg_providers.specs.ContainerSetups.{ContainerSetup, settings_in, asks_container, ProvidesContainer, InterruptedContainer}

module _ {D : Type 0} (d : Ghosts D) (setup : ContainerSetup) (before later : Held D) where
  abbrev Safely : List Pair → Type 0
  Safely journal = AsksSafely setup.configuration.environment (settings_in setup) journal

  pub answered : (out : Result Keys CredentialsError) → ProvidesContainer d setup before later out → Gains before.journal later.journal Safely
  answered out h =
      let p = h.provides in
      record {
        part = p.part;
        grows = p.grows.journal;
        said = part_safely setup.configuration.environment (settings_in setup) h.named p.part h.names (read_begun (asks_container setup h.named) p.part out p.reads);
      }

  pub interrupted : InterruptedContainer d setup before later → Gains before.journal later.journal Safely
  interrupted (inl same) = grew_by_nothing Safely before.journal later.journal (ap (λ x. x.journal) same) (inr tt)
  interrupted (inr h) =
      let i = h.2 in
      record {
        part = i.part;
        grows = i.stays.journal;
        said = part_safely setup.configuration.environment (settings_in setup) h.0 i.part h.1 i.begun;
      }
