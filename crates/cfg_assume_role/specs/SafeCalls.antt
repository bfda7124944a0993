-- Where the `Http` requests of a call go.
use Rattle.std.specs.Prelude.{List}
use Rattle.cfg_world.specs.Fits.{Pair}
use Rattle.cfg_exchange.specs.SafeJournals.{AsksNoHttp}
use Rattle.cfg_chain.specs.SafeCalls.{ChainAsksSafely}
use Rattle.cfg_assume_role.specs.Bases.{Base, ByDefault}

-- Those of a default chain go to safe targets. No other base has any.
abbrev pub BaseAsksSafely : Base → List Pair → Type 0
BaseAsksSafely (ByDefault over) journal = ChainAsksSafely over journal
BaseAsksSafely _ journal = AsksNoHttp journal
