-- The calls of callers, each over its own world, on what they share.
use Rattle.std.specs.Prelude.{List, map}
use Rattle.std.specs.List.{AllZip}
use Rattle.cfg_world.specs.declared.devices.Devices.{Ghosts}
use Rattle.cfg_world.specs.Held.{Held}
use Rattle.cfg_kept.specs.FoundValues.{bare}
use Rattle.cfg_chain.specs.Answers.{Answered, RanOut}
use Rattle.cfg_chain.specs.Settings.{ChainSetting}
use Rattle.cfg_chain.specs.SharedCalls.{ProvidesFound, InterruptedFound}
use Rattle.cfg_sharing.specs.declared.shared.Called.{Called}

-- A world's call: its journal, the values that it found and its answer are those of a call of the chain; or memory
-- ran out, over the beginning of one.
pub record IsCalled {D : Type 0} (d : Ghosts D) (over : ChainSetting) (world : Held D) (called : Called D) : Type 0 where
  pub provides : Answered called.answered.outcome (ProvidesFound d over (map bare called.answered.found) world called.world)
  pub stays : RanOut called.answered.outcome (InterruptedFound d over (map bare called.answered.found) world called.world)

-- a call of each world, in order, and no other
abbrev pub AreCalled : {D : Type 0} → Ghosts D → ChainSetting → List (Held D) → List (Called D) → Type 0
AreCalled d over worlds calls = AllZip (IsCalled d over) worlds calls
