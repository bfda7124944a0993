-- Devices of which one call fails.
use Rattle.std.specs.Prelude.{◌≡◌, ◌≢◌, ℕ, Option, Some}
use Rattle.cfg_world.specs.declared.ask.Question.{Question}
use Rattle.cfg_world.specs.declared.ask.Answer.{Answer}
use Rattle.cfg_world.specs.declared.ask.Answer.TheVariants as answer
use Rattle.cfg_world.specs.declared.devices.Devices.{Ghosts}
use Rattle.cfg_world.specs.Faults.{Faults}
use Rattle.cfg_world.specs.Grows.{AskedBy}
use Rattle.cfg_world.specs.Tallies.{one_more, raised, first_failure}

-- the devices within, the number of the call that fails, how many calls there were, and how often a
-- call failed without the devices within
pub record Faulty (D : Type 0) : Type 0 where
  pub inner : D
  pub at : ℕ
  pub calls : ℕ
  pub own : Faults

-- the number of the next call, counted from 1; a number that is full stands still
abbrev pub next_call : {D : Type 0} → Faulty D → ℕ
next_call f = one_more f.calls

-- one call more
abbrev pub counted_on : {D : Type 0} → Faulty D → Faulty D
counted_on f = record f { calls = next_call f }

-- The question was handed on: the devices within were asked, and this is their answer.
pub record HandedOn {D : Type 0} (d : Ghosts D) (old new : Faulty D) (asked : Question) (given : Option Answer) : Type 0 where
  pub inner : AskedBy d old.inner new.inner asked given
  pub at : new.at ≡ old.at
  pub calls : new.calls ≡ old.calls
  pub own : new.own ≡ old.own

-- The question failed: the devices within were not asked, and the failure was counted.
pub record FailedHere {D : Type 0} (old new : Faulty D) (asked : Question) (given : Option Answer) : Type 0 where
  pub answer : given ≡ Some (answer.Failed (first_failure asked))
  pub after : new ≡ record old { own = raised asked old.own }

-- A call that is counted: the one that fails failed, and any other was handed on.
pub record Numbered {D : Type 0} (d : Ghosts D) (old new : Faulty D) (asked : Question) (given : Option Answer) : Type 0 where
  pub fails : next_call old ≡ old.at → FailedHere (counted_on old) new asked given
  pub others : next_call old ≢ old.at → HandedOn d (counted_on old) new asked given
