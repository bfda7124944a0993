-- The attempts that the records of a state note.
use Rattle.std.specs.Prelude.{◌≡◌, ℕ, ◌<◌, ◌+ℤ◌, ◌≤ℤ◌, List, [], ◌∷◌, ◌++◌, Some, IfSome, IfOk, true, slice_get, pos}
use Rattle.std.specs.Option.{option_to_list}
use Rattle.cfg_base.specs.Moment.{Moment}
use Rattle.cfg_base.specs.Instant.{number, nanos_in}
use Rattle.cfg_world.specs.Fits.{Pair}
use Rattle.cfg_world.specs.Leaves.{moment_of}
use Rattle.cfg_token.specs.Rules.{Rules}
use Rattle.cfg_token.specs.Moments.{is_before, seconds_between_attempts}
use Rattle.cfg_token.specs.Histories.{FinishedLoad, History}

-- the second reading of a load, which stands behind the first one and the file
abbrev pub second_reading : List Pair → Moment
second_reading [] = record { seconds = pos 0; nanos = 0 }
second_reading (a ∷ []) = record { seconds = pos 0; nanos = 0 }
second_reading (a ∷ b ∷ []) = record { seconds = pos 0; nanos = 0 }
second_reading (a ∷ b ∷ c ∷ rest) = moment_of c.1

-- the noted attempts, in order
abbrev pub attempts : {T E : Type 0} → List (FinishedLoad T E) → List Moment
attempts [] = []
attempts (r ∷ records) = option_to_list r.noted ++ attempts records

-- the attempts that a state knows of: the last one before its records, and those that they note
abbrev pub attempts_in : {T E : Type 0} → History T E → List Moment
attempts_in h = option_to_list h.last ++ attempts h.records

-- a noted attempt is at its load's second reading
abbrev pub NotedAtReading : {T E : Type 0} → FinishedLoad T E → Type 0
NotedAtReading r = IfSome r.noted (λ now. second_reading r.receipts ≡ now)

-- a token that the load gave ends after that reading
abbrev pub EndsAfterReading : {T E : Type 0} → Rules T E → FinishedLoad T E → Type 0
EndsAfterReading t r = IfOk r.outcome (λ token. is_before (second_reading r.receipts) (t.expiry token) ≡ true)

-- of two attempts the later one is long enough after the earlier one
abbrev pub Spaced : List Moment → Type 0
Spaced all = (i j : ℕ) (a b : Moment) → i < j → slice_get all i ≡ Some a → slice_get all j ≡ Some b → (number a +ℤ nanos_in seconds_between_attempts) ≤ℤ number b
