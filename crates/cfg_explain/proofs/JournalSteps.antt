-- Beginnings of lists, and places in them.
use Rattle.std.proofs.Common.{◌≡◌, ◌≤◌, ◌<◌, ℕ, zero, suc, ◌+◌, List, [], ◌∷◌, ◌++◌, take, drop, length, get_or, Some, None, refl, sym, ap, ◌∙◌, subst, add-one, arith}
use Rattle.std.proofs.Math.Seq.{drop-cons}
use Rattle.std.specs.Prelude.{slice_get}
use Rattle.cfg_world.specs.Fits.{Pair, Fits, EachFits}
use Rattle.cfg_world.specs.Agreeing.{AnswerAlike}
use Rattle.cfg_world.proofs.Agreeing.{same_entry}
use Rattle.cfg_explain.specs.Journals.{questions, AskAlike}

pub head_is : {A : Type 0} {x y : A} {xs ys : List A} → x ∷ xs ≡ y ∷ ys → x ≡ y
head_is e = cc

pub tail_is : {A : Type 0} {x y : A} {xs ys : List A} → x ∷ xs ≡ y ∷ ys → xs ≡ ys
tail_is e = cc

pub some_is : {A : Type 0} {x y : A} → Some x ≡ Some y → x ≡ y
some_is e = cc

pub not_some : {A : Type 0} {x : A} → None ≡ Some x → ⊥
not_some e = cc

-- ---- places

-- the item at a place, and what is behind it
pub record Cut {A : Type 0} (n : ℕ) (xs : List A) (x : A) : Type 0 where
  pub rest : List A
  pub is : xs ≡ take n xs ++ x ∷ rest
  pub lt : n < length xs

no_item : {A : Type 0} (n : ℕ) → slice_get {X = A} [] n ≡ None
no_item zero = refl
no_item (suc n) = refl

pub cut_at : {A : Type 0} (n : ℕ) (xs : List A) (x : A) → slice_get xs n ≡ Some x → Cut n xs x
cut_at n [] x h = absurd (not_some (sym (no_item n) ∙ h))
cut_at zero (y ∷ xs) x h = record { rest = xs; is = ap (λ t. t ∷ xs) (some_is h); lt = omega arith }
cut_at (suc n) (y ∷ xs) x h = let c = cut_at n xs x h in record { rest = c.rest; is = ap (λ t. y ∷ t) c.is; lt = let lt = c.lt in omega arith }

pub whole_at : {A : Type 0} (n : ℕ) (xs : List A) → slice_get xs n ≡ None → take n xs ≡ xs
whole_at zero [] h = refl
whole_at (suc n) [] h = refl
whole_at zero (x ∷ xs) h = absurd (not_some (sym h))
whole_at (suc n) (x ∷ xs) h = ap (λ t. x ∷ t) (whole_at n xs h)

pub item_at : {A : Type 0} (n : ℕ) (xs : List A) → n < length xs → (x : A) × (slice_get xs n ≡ Some x)
item_at n [] lt = let wrong : ⊥ = omega arith in absurd wrong
item_at zero (x ∷ xs) lt = (x, refl)
item_at (suc n) (x ∷ xs) lt = item_at n xs (omega arith)

pub longer : {A : Type 0} (xs : List A) (x : A) (rest : List A) → xs ≡ xs ++ x ∷ rest → ⊥
longer [] x rest h = cc
longer (y ∷ xs) x rest h = longer xs x rest (tail_is h)

not_empty : {A : Type 0} (xs : List A) (x : A) (rest : List A) → [] ≡ xs ++ x ∷ rest → ⊥
not_empty [] x rest h = cc
not_empty (y ∷ xs) x rest h = cc

-- a beginning, and the item behind it
pub take_behind : {A : Type 0} (n m : ℕ) (xs : List A) (x : A) (rest : List A) → take m xs ≡ take n xs ++ x ∷ rest → slice_get xs n ≡ Some x
take_behind n zero [] x rest h = absurd (not_empty (take n []) x rest h)
take_behind n (suc m) [] x rest h = absurd (not_empty (take n []) x rest h)
take_behind n zero (y ∷ xs) x rest h = absurd (not_empty (take n (y ∷ xs)) x rest h)
take_behind zero (suc m) (y ∷ xs) x rest h = ap Some (head_is h)
take_behind (suc n) (suc m) (y ∷ xs) x rest h = take_behind n m xs x rest (tail_is h)

pub take_length : {A : Type 0} (n : ℕ) (xs : List A) → n ≤ length xs → length (take n xs) ≡ n
take_length zero xs h = refl
take_length (suc n) [] h = let wrong : ⊥ = omega arith in absurd wrong
take_length (suc n) (x ∷ xs) h = ap suc (take_length n xs (omega arith))

-- what is up to the end of a list, and there
pub end_of : {A : Type 0} (xs : List A) → (take (length xs) xs ≡ xs) × (slice_get xs (length xs) ≡ None)
end_of [] = (refl, refl)
end_of (x ∷ xs) = let r = end_of xs in (ap (λ t. x ∷ t) r.0, r.1)

-- ---- answers that agree

pub alike_self : (journal : List Pair) → AnswerAlike journal journal
alike_self [] = tt
alike_self (e ∷ journal) = λ asks. (refl, alike_self journal)

-- beginnings of one journal
pub alike_takes : (n m : ℕ) (journal : List Pair) → AnswerAlike (take n journal) (take m journal)
alike_takes zero m journal = tt
alike_takes (suc n) m [] = tt
alike_takes (suc n) zero (e ∷ journal) = tt
alike_takes (suc n) (suc m) (e ∷ journal) = λ asks. (refl, alike_takes n m journal)

-- two journals whose answers agree are the same as far as they ask the same
pub fronts : (n : ℕ) (one other : List Pair) → AnswerAlike one other → questions (take n one) ≡ questions (take n other) → take n one ≡ take n other
fronts zero one other a same = refl
fronts (suc n) [] [] a same = refl
fronts (suc n) [] (f ∷ other) a same = cc
fronts (suc n) (e ∷ one) [] a same = cc
fronts (suc n) (e ∷ one) (f ∷ other) a same =
    let asks : e.0 ≡ f.0 = head_is same in
    let alike = a asks in
    ap (λ t. t ∷ take n one) (same_entry e f asks alike.0) ∙ ap (λ t. f ∷ t) (fronts n one other alike.1 (tail_is same))

-- ---- loops

-- one place more at which both ask the same
pub record AskMore (one other : List Pair) (at : ℕ) : Type 0 where
  pub first : at + 1 ≤ length one
  pub second : at + 1 ≤ length other
  pub same : questions (take (at + 1) one) ≡ questions (take (at + 1) other)

ask_cons : (e f : Pair) (one other : List Pair) (at : ℕ) → e.0 ≡ f.0 → AskMore one other at → AskMore (e ∷ one) (f ∷ other) (suc at)
ask_cons e f one other at same m = record {
  first = let h = m.first in omega arith;
  second = let h = m.second in omega arith;
  same = rw add-one (ap (λ q. q ∷ questions (take (suc at) one)) same ∙ ap (λ qs. f.0 ∷ qs) (rw add-one at m.same));
}

pub asks_more : (one other : List Pair) (at : ℕ) → questions (take at one) ≡ questions (take at other) → AskAlike (slice_get one at) (slice_get other at) → AskMore one other at
asks_more [] other zero same asks = absurd asks
asks_more [] other (suc at) same asks = absurd asks
asks_more (e ∷ one) [] zero same asks = absurd asks
asks_more (e ∷ one) [] (suc at) same asks = cc
asks_more (e ∷ one) (f ∷ other) zero same asks = record { first = omega arith; second = omega arith; same = ap (λ q. q ∷ []) asks }
asks_more (e ∷ one) (f ∷ other) (suc at) same asks = ask_cons e f one other at (head_is same) (asks_more one other at (tail_is same) asks)

pub more_fits : (xs : List Pair) (i : ℕ) (d : Pair) → i < length xs → Fits (get_or xs i d).0 (get_or xs i d).1 → (EachFits (drop i xs) → EachFits xs) → EachFits (drop (i + 1) xs) → EachFits xs
more_fits xs i d lt fits back rest = back (subst EachFits (sym (drop-cons xs i d lt)) (fits, rw add-one at rest))
