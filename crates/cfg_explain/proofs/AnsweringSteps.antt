-- Journals that have the same kinds and answers.
use Rattle.std.proofs.Common.{◌≡◌, ◌≤◌, ℕ, zero, suc, ◌+◌, List, [], ◌∷◌, ◌++◌, map, take, length, Some, sym, ap, ◌∙◌, add-one, arith}
use Rattle.std.specs.Prelude.{slice_get}
use Rattle.std.proofs.lemmas.List.{map-append}
use Rattle.cfg_world.specs.Fits.{Pair, Fits, EachFits}
use Rattle.cfg_world.specs.Agreeing.{AnswerAlike}
use Rattle.cfg_explain.specs.Answerings.{answering_of, AreAlike}
use Rattle.cfg_explain.specs.declared.answering.Answering.{Answering}
use Rattle.cfg_explain.proofs.JournalSteps.{head_is, tail_is, take_behind}

-- one place more at which both are the same
pub record AlikeMore (journal : List Pair) (answers : List Answering) (at : ℕ) : Type 0 where
  pub first : at + 1 ≤ length journal
  pub second : at + 1 ≤ length answers
  pub same : map answering_of (take (at + 1) journal) ≡ take (at + 1) answers

alike_cons : (e : Pair) (a : Answering) (journal : List Pair) (answers : List Answering) (at : ℕ) → answering_of e ≡ a → AlikeMore journal answers at → AlikeMore (e ∷ journal) (a ∷ answers) (suc at)
alike_cons e a journal answers at same m = record {
  first = let h = m.first in omega arith;
  second = let h = m.second in omega arith;
  same = rw add-one (ap (λ x. x ∷ map answering_of (take (suc at) journal)) same ∙ ap (λ xs. a ∷ xs) (rw add-one at m.same));
}

pub alike_more : (journal : List Pair) (answers : List Answering) (at : ℕ) → map answering_of (take at journal) ≡ take at answers → AreAlike (slice_get journal at) (slice_get answers at) → AlikeMore journal answers at
alike_more [] answers zero same h = absurd h
alike_more [] answers (suc at) same h = absurd h
alike_more (e ∷ journal) [] zero same h = absurd h
alike_more (e ∷ journal) [] (suc at) same h = cc
alike_more (e ∷ journal) (a ∷ answers) zero same h = record { first = omega arith; second = omega arith; same = ap (λ x. x ∷ []) h }
alike_more (e ∷ journal) (a ∷ answers) (suc at) same h = alike_cons e a journal answers at (head_is same) (alike_more journal answers at (tail_is same) h)

-- two journals that have beginnings of the same answers
pub answered_alike : (answers : List Answering) (n m : ℕ) (one other : List Pair) → map answering_of one ≡ take n answers → map answering_of other ≡ take m answers → AnswerAlike one other
answered_alike answers n m [] other h k = tt
answered_alike answers n m (e ∷ one) [] h k = tt
answered_alike [] zero m (e ∷ one) (f ∷ other) h k = cc
answered_alike [] (suc n) m (e ∷ one) (f ∷ other) h k = cc
answered_alike (a ∷ answers) zero m (e ∷ one) (f ∷ other) h k = cc
answered_alike (a ∷ answers) (suc n) zero (e ∷ one) (f ∷ other) h k = cc
answered_alike (a ∷ answers) (suc n) (suc m) (e ∷ one) (f ∷ other) h k = λ asks. (
  ap (λ (x : Answering). x.answer) (head_is h ∙ sym (head_is k)),
  answered_alike answers n m one other (tail_is h) (tail_is k),
)

-- the entry behind a beginning has the kind and the answer of its place
pub answered_behind : (answers : List Answering) (n m : ℕ) (one other : List Pair) (e : Pair) (rest : List Pair) → map answering_of one ≡ take n answers → map answering_of other ≡ take m answers → other ≡ one ++ e ∷ rest →
    slice_get answers n ≡ Some (answering_of e)
answered_behind answers n m one other e rest h k is =
    take_behind n m answers (answering_of e) (map answering_of rest) (sym k ∙ ap (map answering_of) is ∙ map-append answering_of one (e ∷ rest) ∙ ap (λ t. t ++ answering_of e ∷ map answering_of rest) h)

-- each answer of a beginning fits, and so does the one behind it
pub fits_front : (n : ℕ) (journal : List Pair) → EachFits journal → EachFits (take n journal)
fits_front zero journal h = tt
fits_front (suc n) [] h = tt
fits_front (suc n) (e ∷ journal) h = (h.0, fits_front n journal h.1)

pub fits_behind : (one : List Pair) (e : Pair) (rest : List Pair) → EachFits (one ++ e ∷ rest) → Fits e.0 e.1
fits_behind [] e rest h = h.0
fits_behind (d ∷ one) e rest h = fits_behind one e rest h.1
