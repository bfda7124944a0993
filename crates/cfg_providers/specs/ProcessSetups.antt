-- What a provider of processes was set to, and what it asks.
use Rattle.std.specs.Prelude.{ℕ, List, Option, Result}
use Rattle.cfg_types.specs.Keys.{Keys}
use Rattle.cfg_types.specs.declared.errors.CredentialsError.{CredentialsError}
use Rattle.cfg_world.specs.Fits.{Pair}
use Rattle.cfg_world.specs.Inquiry.{Inquiry}
use Rattle.cfg_providers.specs.Processes.{credential_process, why_process}

pub record ProcessSetup : Type 0 where
  pub command : List ℕ
  -- the account of credentials whose document names none
  pub account_id : Option (List ℕ)

-- what is asked, and what it gives
abbrev pub asks_process : ProcessSetup → Inquiry (Result Keys CredentialsError)
asks_process setup = credential_process setup.command setup.account_id

-- why it gives no credentials, over its part
abbrev pub why_none : ProcessSetup → List Pair → Option CredentialsError
why_none setup part = why_process setup.account_id part
