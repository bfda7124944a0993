-- Counts of faults.
use Rattle.std.specs.Prelude.{ℕ, ◌+◌, ◌≤◌, min, List, [], ◌∷◌}
use Rattle.cfg_world.specs.declared.ask.Question.{Question}
use Rattle.cfg_world.specs.declared.ask.Question.TheVariants as question
use Rattle.cfg_world.specs.declared.ask.Answer.{Answer}
use Rattle.cfg_world.specs.declared.ask.Answer.TheVariants as answer
use Rattle.cfg_world.specs.Fits.{Pair}

-- how often each kind of device has failed
pub record Faults : Type 0 where
  pub files : ℕ
  pub transport : ℕ
  pub commands : ℕ
  pub lookups : ℕ

-- the end of a count of 64 bits, at which it stands still
abbrev pub full_count : ℕ
full_count = 18446744073709551615

-- a count that rose, or was full
abbrev pub Rose : ℕ → ℕ → Type 0
Rose before now = min (before + 1) full_count ≤ now

-- the count that a failure of the question raises; that of the clock and of the jitter, which cannot
-- fail, never rises
abbrev pub count_of : Question → Faults → ℕ
count_of question.Now faults = 0
count_of question.Jitter faults = 0
count_of (question.Read path) faults = faults.files
count_of (question.Write path bytes) faults = faults.files
count_of (question.Run command) faults = faults.commands
count_of (question.LookUp host) faults = faults.lookups
count_of (question.Send request) faults = faults.transport

-- the count that a failure of the question raises rose, or was full
abbrev pub CountRose : Question → Faults → Faults → Type 0
CountRose asked old new = Rose (count_of asked old) (count_of asked new)

-- the kinds of device that can fail
pub data Device : Type 0 where
  Files : Device
  Transport : Device
  Commands : Device
  LookUps : Device

-- one failure, where the answer is one
abbrev pub failed : Answer → ℕ
failed (answer.Failed kind) = 1
failed _ = 0

-- the failures of a kind of device that one entry shows
abbrev pub failures : Device → Question → Answer → ℕ
failures Files (question.Read path) given = failed given
failures Files (question.Write path bytes) given = failed given
failures Commands (question.Run command) given = failed given
failures LookUps (question.LookUp host) given = failed given
failures Transport (question.Send request) given = failed given
failures _ _ given = 0

-- the failures of a kind of device that a part of a journal shows
abbrev pub failures_in : Device → List Pair → ℕ
failures_in device [] = 0
failures_in device (e ∷ part) = failures device e.0 e.1 + failures_in device part

-- The count did not fall, and rose by at least so many, or is full.
pub record Rises (by before now : ℕ) : Type 0 where
  pub later : before ≤ now
  pub counted : min (before + by) full_count ≤ now

-- No count fell, and each failure of the part was counted.
pub record Counted (part : List Pair) (old new : Faults) : Type 0 where
  pub files : Rises (failures_in Files part) old.files new.files
  pub transport : Rises (failures_in Transport part) old.transport new.transport
  pub commands : Rises (failures_in Commands part) old.commands new.commands
  pub lookups : Rises (failures_in LookUps part) old.lookups new.lookups
