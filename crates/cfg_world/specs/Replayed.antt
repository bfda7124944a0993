-- Answers that are handed in.
use Rattle.std.specs.Prelude.{◌≡◌, List, [], ◌∷◌, ◌++◌, Option}
use Rattle.cfg_world.specs.declared.ask.Question.{Question}
use Rattle.cfg_world.specs.Fits.{Pair}
use Rattle.cfg_world.specs.Faults.{Faults, Files, Transport, Commands, LookUps, failures_in}

-- the entries that were handed out, those that are left, and the question that was left open
pub record Replayed : Type 0 where
  pub handed : List Pair
  pub left : List Pair
  pub unanswered : Option Question

-- all entries: those handed out are its beginning
abbrev pub all_entries : Replayed → List Pair
all_entries r = r.handed ++ r.left

-- the next entry has this question
abbrev pub IsNext : List Pair → Question → Type 0
IsNext [] asked = ⊥
IsNext (e ∷ left) asked = e.0 ≡ asked

-- the failures that a journal shows, kind by kind
abbrev pub shown_failures : List Pair → Faults
shown_failures journal = record { files = failures_in Files journal; transport = failures_in Transport journal; commands = failures_in Commands journal; lookups = failures_in LookUps journal }
