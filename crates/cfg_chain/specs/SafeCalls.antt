-- Where the `Http` requests of a call go.
use Rattle.std.specs.Prelude.{List}
use Rattle.cfg_world.specs.Fits.{Pair}
use Rattle.cfg_exchange.specs.SafeJournals.{AsksSafely}
use Rattle.cfg_chain.specs.Settings.{ChainSetting, container_settings}

-- By the configuration's variables, and as the chain asks a container, they go to safe targets.
abbrev pub ChainAsksSafely : ChainSetting → List Pair → Type 0
ChainAsksSafely over journal = AsksSafely over.configuration.environment (container_settings over.configuration) journal
