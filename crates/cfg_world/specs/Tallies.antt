-- Counts of faults as devices keep and raise them.
use Rattle.std.specs.Prelude.{◌≡◌, ◌≤◌, ℕ, ◌+◌, min, List, Option, Some, None, Result, Ok, Err}
use Rattle.cfg_world.specs.declared.ask.Question.{Question}
use Rattle.cfg_world.specs.declared.ask.Question.TheVariants as question
use Rattle.cfg_types.specs.declared.reply.FailKind.{FailKind}
use Rattle.cfg_types.specs.declared.reply.FailKind.TheVariants.{Dispatch, Io}
use Rattle.cfg_types.specs.declared.reply.Fault.{Fault}
use Rattle.cfg_types.specs.declared.reply.Fault.TheVariants.{Failed, OutOfMemory}
use Rattle.cfg_world.specs.declared.ask.Answer.{Answer}
use Rattle.cfg_world.specs.declared.ask.Answer.TheVariants as answer
use Rattle.cfg_world.specs.Fits.{Pair}
use Rattle.cfg_world.specs.Faults.{Faults, full_count}

-- no device has failed
abbrev pub no_faults : Faults
no_faults = record { files = 0; transport = 0; commands = 0; lookups = 0 }

-- one more; a count that is full stands still
abbrev pub one_more : ℕ → ℕ
one_more count = min (count + 1) full_count

-- the counts after one failure of the question
abbrev pub raised : Question → Faults → Faults
raised question.Now faults = faults
raised question.Jitter faults = faults
raised (question.Read path) faults = record faults { files = one_more faults.files }
raised (question.Write path bytes) faults = record faults { files = one_more faults.files }
raised (question.Run command) faults = record faults { commands = one_more faults.commands }
raised (question.LookUp host) faults = record faults { lookups = one_more faults.lookups }
raised (question.Send request) faults = record faults { transport = one_more faults.transport }

-- the counts after an answer: a failure is counted once
abbrev pub faults_after : Question → Answer → Faults → Faults
faults_after asked (answer.Failed kind) faults = raised asked faults
faults_after asked _ faults = faults

-- A failure is counted once, and nothing else is counted.
abbrev pub CountedOnce : Question → Option Answer → Faults → Faults → Type 0
CountedOnce asked None old new = new ≡ old
CountedOnce asked (Some given) old new = new ≡ faults_after asked given old

-- no count is beyond the end of 64 bits
pub record Small (f : Faults) : Type 0 where
  pub files : f.files ≤ full_count
  pub transport : f.transport ≤ full_count
  pub commands : f.commands ≤ full_count
  pub lookups : f.lookups ≤ full_count

-- how a device that is asked this fails
abbrev pub first_failure : Question → FailKind
first_failure (question.Send request) = Dispatch
first_failure _ = Io

-- kind by kind, the failures of both
abbrev pub sum_of : Faults → Faults → Faults
sum_of one other = record { files = one.files + other.files; transport = one.transport + other.transport; commands = one.commands + other.commands; lookups = one.lookups + other.lookups }

-- every list of entries
abbrev pub any_list : List Pair → Type 0
any_list entries = Unit {0}

-- a file that failed was counted with `Io`; nothing else was counted
abbrev pub FileCounted : {T : Type 0} → Faults → Faults → Result T Fault → Type 0
FileCounted old new (Ok x) = new ≡ old
FileCounted old new (Err (Failed kind)) = (kind ≡ Io) × (new ≡ record old { files = one_more old.files })
FileCounted old new (Err OutOfMemory) = new ≡ old
