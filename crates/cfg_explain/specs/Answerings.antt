-- Journals, by the kinds of their questions and by their answers.
use Rattle.std.specs.Prelude.{◌≡◌, ◌≢◌, ◌≤◌, ℕ, List, map, take, length, Option, Some, slice_get}
use Rattle.cfg_world.specs.Fits.{Pair, EachFits}
use Rattle.cfg_explain.specs.Kinds.{kind_of}
use Rattle.cfg_explain.specs.declared.answering.Answering.{Answering}

-- the kind of an entry's question, and its answer
abbrev pub answering_of : Pair → Answering
answering_of e = record { kind = kind_of e.0; answer = e.1 }

-- The journal has questions of these kinds, with these answers, in order, and each answer fits its question.
pub record HasAnswers (journal : List Pair) (answers : List Answering) : Type 0 where
  pub has : map answering_of journal ≡ answers
  pub fits : EachFits journal

-- There is an entry, of this kind and with this answer.
abbrev pub AreAlike : Option Pair → Option Answering → Type 0
AreAlike (Some e) (Some a) = answering_of e ≡ a
AreAlike _ _ = ⊥

-- One of them is missing, or the entry is of another kind or has another answer.
abbrev pub AreNotAlike : Option Pair → Option Answering → Type 0
AreNotAlike (Some e) (Some a) = answering_of e ≢ a
AreNotAlike _ _ = Unit {0}

-- Before this place the journal has these kinds and answers, and there it has not.
pub record AlikeUntil (journal : List Pair) (answers : List Answering) (at : ℕ) : Type 0 where
  pub first : at ≤ length journal
  pub second : at ≤ length answers
  pub same : map answering_of (take at journal) ≡ take at answers
  pub ends : AreNotAlike (slice_get journal at) (slice_get answers at)
