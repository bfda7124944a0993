-- Parts of a text that is cut at colons.
use Rattle.std.proofs.Common.{◌≡◌, ◌≢◌, ℕ, suc, ◌<◌, List, [], ◌∷◌, ◌++◌, cond, false, length, get_or, Some, None, refl, ap, ◌∙◌, arith, tests}
use Rattle.std.specs.Prelude.{◌==◌}
use Rattle.cfg_providers.specs.Sts.{behind_colon, before_colon}

no_colon : (b : ℕ) → b ≢ 58 → (b == 58) ≡ false
no_colon b h = grind (arith, tests)

abbrev Free : List ℕ → Type 0
Free xs = (i : ℕ) → i < length xs → get_or xs i 0 ≢ 58

first_free : (b : ℕ) (xs : List ℕ) → Free (b ∷ xs) → b ≢ 58
first_free b xs h = h 0 (omega arith)

others_free : (b : ℕ) (xs : List ℕ) → Free (b ∷ xs) → Free xs
others_free b xs h i lt = h (suc i) (omega (arith, lt))

pub behind_free : (xs ys : List ℕ) → Free xs → behind_colon (xs ++ 58 ∷ ys) ≡ Some ys
behind_free [] ys h = refl
behind_free (b ∷ xs) ys h = ap (λ t. cond t (Some (xs ++ 58 ∷ ys)) (behind_colon (xs ++ 58 ∷ ys))) (no_colon b (first_free b xs h)) ∙ behind_free xs ys (others_free b xs h)

pub behind_none : (xs : List ℕ) → Free xs → behind_colon xs ≡ None
behind_none [] h = refl
behind_none (b ∷ xs) h = ap (λ t. cond t (Some xs) (behind_colon xs)) (no_colon b (first_free b xs h)) ∙ behind_none xs (others_free b xs h)

pub before_free : (xs ys : List ℕ) → Free xs → before_colon (xs ++ 58 ∷ ys) ≡ xs
before_free [] ys h = refl
before_free (b ∷ xs) ys h = ap (λ t. cond t [] (b ∷ before_colon (xs ++ 58 ∷ ys))) (no_colon b (first_free b xs h)) ∙ ap (λ r. b ∷ r) (before_free xs ys (others_free b xs h))

pub before_none : (xs : List ℕ) → Free xs → before_colon xs ≡ xs
before_none [] h = refl
before_none (b ∷ xs) h = ap (λ t. cond t [] (b ∷ before_colon xs)) (no_colon b (first_free b xs h)) ∙ ap (λ r. b ∷ r) (before_none xs (others_free b xs h))
