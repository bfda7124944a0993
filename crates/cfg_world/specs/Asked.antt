-- What one question to the devices keeps, and what it adds.
use Rattle.std.specs.Prelude.{List, [], ◌∷◌, ◌++◌, Option, Some, None, IfSome, Result, Ok, Err}
use Rattle.cfg_world.specs.declared.ask.Question.{Question}
use Rattle.cfg_world.specs.declared.ask.Answer.{Answer}
use Rattle.cfg_world.specs.declared.ask.Answer.TheVariants as answer
use Rattle.cfg_types.specs.declared.reply.Fault.{Fault}
use Rattle.cfg_types.specs.declared.reply.Fault.TheVariants.{Failed, OutOfMemory}
use Rattle.cfg_world.specs.Fits.{Fits, Pair}
use Rattle.cfg_world.specs.Faults.{Faults, Counted}

-- both allow the same lists
pub record Same (old new : List Pair → Type 0) : Type 0 where
  pub to : (entries : List Pair) → old entries → new entries
  pub from : (entries : List Pair) → new entries → old entries

-- the entry of a question that was answered, or nothing
abbrev pub entered : Question → Option Answer → List Pair
entered asked None = []
entered asked (Some answer) = (asked, answer) ∷ []

-- What stood for a list stands for it with this part behind it.
abbrev pub StandsOn : (List Pair → Type 0) → (List Pair → Type 0) → List Pair → Type 0
StandsOn old new part = (entries : List Pair) → old entries → new (entries ++ part)

-- One question was put to the devices. Without an answer memory ran out.
pub record Asked (old_faults new_faults : Faults) (old_allows new_allows old_stands new_stands : List Pair → Type 0) (asked : Question) (given : Option Answer) : Type 0 where
  -- no call changes which lists are allowed
  pub same : Same old_allows new_allows
  -- a failure is counted
  pub counted : Counted (entered asked given) old_faults new_faults
  -- the answer fits the question
  pub fits : IfSome given (λ a. Fits asked a)
  -- devices that stood for a list stand for it with this entry behind it
  pub stands : IfSome given (λ a. StandsOn old_stands new_stands ((asked, a) ∷ []))

-- One question was put to devices of these counts, that allow and stand for these lists.
abbrev pub AskedOf : {D : Type 0} → (D → Faults) → (D → List Pair → Type 0) → (D → List Pair → Type 0) → D → D → Question → Option Answer → Type 0
AskedOf faults allows stands old new = Asked (faults old) (faults new) (allows old) (allows new) (stands old) (stands new)

-- the answer of a device that failed, if it has one
abbrev pub failure_of : Fault → Option Answer
failure_of (Failed kind) = Some (answer.Failed kind)
failure_of OutOfMemory = None

-- the answer of a call
abbrev pub answer_of : {T : Type 0} → (T → Answer) → Result T Fault → Option Answer
answer_of of (Ok x) = Some (of x)
answer_of of (Err fault) = failure_of fault

-- the answer of a call that writes
abbrev pub written_answer : {T : Type 0} → Result T Fault → Option Answer
written_answer = answer_of (λ x. answer.Written)

-- the answer, where there was memory
abbrev pub given : {E : Type 0} → Result Answer E → Option Answer
given (Ok a) = Some a
given (Err e) = None
