-- How far two journals ask the same.
use Rattle.std.specs.Prelude.{◌≡◌, ◌≢◌, ◌≤◌, ℕ, List, map, take, length, Option, Some, slice_get}
use Rattle.cfg_world.specs.declared.ask.Question.{Question}
use Rattle.cfg_world.specs.Fits.{Pair}

-- the questions of a journal
abbrev pub questions : List Pair → List Question
questions journal = map (λ e. e.0) journal

-- Both have an entry, and ask the same.
abbrev pub AskAlike : Option Pair → Option Pair → Type 0
AskAlike (Some e) (Some f) = e.0 ≡ f.0
AskAlike _ _ = ⊥

-- One of them has none, or they ask different questions.
abbrev pub DoNotAskAlike : Option Pair → Option Pair → Type 0
DoNotAskAlike (Some e) (Some f) = e.0 ≢ f.0
DoNotAskAlike _ _ = Unit {0}

-- Before this place both ask the same, and there they do not.
pub record AskAlikeUntil (one other : List Pair) (at : ℕ) : Type 0 where
  pub first : at ≤ length one
  pub second : at ≤ length other
  pub same : questions (take at one) ≡ questions (take at other)
  pub ends : DoNotAskAlike (slice_get one at) (slice_get other at)
