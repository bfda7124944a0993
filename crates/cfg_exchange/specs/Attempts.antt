-- Attempts of one question: as a tree, and as a finished piece.
use Rattle.std.specs.Prelude.{◌≡◌, ℕ, zero, suc, ◌+◌, ◌<◌, Bool, true, false, List, [], ◌∷◌, ◌++◌, length, ◌⊎◌, Result, Ok, Err, if◌then◌else◌}
use Rattle.std.specs.List.{AllByRecursion}
use Rattle.cfg_world.specs.declared.ask.Question.{Question}
use Rattle.cfg_world.specs.declared.ask.Answer.{Answer}
use Rattle.cfg_world.specs.Fits.{Pair}
use Rattle.cfg_world.specs.Inquiry.{Inquiry, Done, Ask, after}

-- the outcome alone, without what a call gives beside it
abbrev pub outcome_of : {A B E : Type 0} → Result (A × B) E → Result A E
outcome_of (Ok x) = Ok x.0
outcome_of (Err e) = Err e

-- one question, whose entry is the outcome
unfoldable pub asked : Question → Inquiry Pair
asked q = Ask q (λ a. Done (q, a))

-- one attempt, and at most this many more
unfoldable pub attempts : ℕ → Question → (Answer → Bool) → Inquiry Pair
attempts zero q repeats = asked q
attempts (suc more) q repeats = after (asked q) (λ e. if repeats e.1 then attempts more q repeats else Done e)

-- One to limit entries that all ask q. All but the last are repeated; the last is not, or they are limit.
pub record Attempts (q : Question) (limit : ℕ) (repeats : Answer → Bool) (part : List Pair) (last : Pair) : Type 0 where
  pub before : List Pair
  pub parts : part ≡ before ++ last ∷ []
  pub each : AllByRecursion (λ e. (e.0 ≡ q) × (repeats e.1 ≡ true)) before
  pub asks : last.0 ≡ q
  pub most : length before < limit
  pub stops : (repeats last.1 ≡ false) ⊎ (length before + 1 ≡ limit)
