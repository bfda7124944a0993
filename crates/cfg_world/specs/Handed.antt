-- What devices answer that answers are handed to.
use Rattle.std.specs.Prelude.{◌≡◌, ℕ, ◌+◌, min, Bool, if◌then◌else◌, List, [], ◌∷◌, length, Option, Some, None, Result, Ok, Err, slice_get}
use Rattle.cfg_types.specs.declared.reply.Reply.{Reply}
use Rattle.cfg_types.specs.declared.reply.FailKind.{FailKind}
use Rattle.cfg_types.specs.declared.reply.FailKind.TheVariants.{Dispatch, Io}
use Rattle.cfg_world.specs.declared.ask.Question.{Question}
use Rattle.cfg_world.specs.declared.ask.Question.TheVariants as question
use Rattle.cfg_world.specs.declared.ask.Answer.{Answer}
use Rattle.cfg_world.specs.declared.ask.Answer.TheVariants as answer
use Rattle.cfg_world.specs.Epoch.{epoch}
use Rattle.cfg_world.specs.Fits.{Fits, Pair}
use Rattle.cfg_world.specs.Faults.{Faults, full_count}
use Rattle.cfg_world.specs.Tallies.{faults_after, one_more}

-- the answers, how many of them were used up, how many questions were put (a count that is full stands still),
-- and how often each kind of device has failed
pub record Handed : Type 0 where
  pub answers : List Answer
  pub used : ℕ
  pub questions : ℕ
  pub faults : Faults

-- the answer where none that fits was handed in
abbrev pub otherwise : Question → Answer
otherwise question.Now = answer.Moment epoch
otherwise question.Jitter = answer.Jitter 0
otherwise (question.Send request) = answer.Failed Dispatch
otherwise _ = answer.Failed Io

-- the answer that was handed in, where there is one and it fits
abbrev pub IsGiven : Option Answer → Question → Answer → Type 0
IsGiven None asked given = given ≡ otherwise asked
IsGiven (Some handed) asked given = (Fits asked handed → given ≡ handed) × ((Fits asked handed → ⊥) → given ≡ otherwise asked)

-- from this place on, each answer is given by the answer of its place
abbrev pub GivenFrom : List Answer → ℕ → List Pair → Type 0
GivenFrom answers at [] = Unit {0}
GivenFrom answers at (e ∷ entries) = IsGiven (slice_get answers at) e.0 e.1 × GivenFrom answers (at + 1) entries

-- how many answers so many questions use up
abbrev pub used_by : List Answer → ℕ → ℕ
used_by answers count = min count (length answers)

-- the lists whose answers are exactly those that the rule gives
abbrev pub Allows : Handed → List Pair → Type 0
Allows h entries = GivenFrom h.answers 0 entries

-- those of them that have as many entries as questions were put
pub record Stands (h : Handed) (entries : List Pair) : Type 0 where
  pub given : GivenFrom h.answers 0 entries
  pub used : h.used ≡ used_by h.answers (length entries)
  pub questions : h.questions ≡ min (length entries) full_count

-- One question was answered by the answer of its place.
pub record Answered (old new : Handed) (asked : Question) (given : Answer) : Type 0 where
  pub is : IsGiven (slice_get old.answers old.used) asked given
  pub fits : Fits asked given
  pub answers : new.answers ≡ old.answers
  pub used : new.used ≡ used_by old.answers (old.used + 1)
  pub questions : new.questions ≡ one_more old.questions
  pub faults : new.faults ≡ faults_after asked given old.faults

-- One question was put. Without an answer memory ran out, and nothing changed.
abbrev pub HandedOut : Handed → Handed → Question → Option Answer → Type 0
HandedOut old new asked None = new ≡ old
HandedOut old new asked (Some given) = Answered old new asked given

-- the answer, or the failure with `Io`
abbrev pub or_io : {T : Type 0} → (T → Answer) → Option T → Answer
or_io of (Some x) = of x
or_io of None = answer.Failed Io

-- that a file was written, or the failure with `Io`
abbrev pub written_or_io : Bool → Answer
written_or_io written = if written then answer.Written else answer.Failed Io

-- the reply, or how the transport failed
abbrev pub sent : Result Reply FailKind → Answer
sent (Ok reply) = answer.Replied reply
sent (Err kind) = answer.Failed kind

-- the answer of the next place
abbrev pub next_answer : Handed → Option Answer
next_answer h = slice_get h.answers h.used
