-- White space is passed over, and nothing else.
use Rattle.std.proofs.Common.{◌≡◌, ℕ, List, [], ◌∷◌, ◌++◌, Bool, true, false, cond, Some, refl, ap}
use Rattle.std.specs.Prelude.{◌==◌}
use Rattle.std.proofs.lemmas.Bool.{eqb-true}
use Rattle.cfg_json.specs.WhiteSpace.{is_json_white_space, IsWhiteSpace}
use Rattle.cfg_json.specs.Reading.{after_white_space, mark_at}
use Rattle.cfg_json.proofs.Options.{given, none_is, tested}

-- no white space is at the front
abbrev pub NoWhiteSpace : List ℕ → Type 0
NoWhiteSpace [] = Unit {0}
NoWhiteSpace (x ∷ t) = is_json_white_space x ≡ false

pub white_space_again : (w rest : List ℕ) → IsWhiteSpace w → NoWhiteSpace rest → after_white_space (w ++ rest) ≡ rest
unfolding after_white_space
white_space_again [] [] h n = refl
white_space_again [] (x ∷ t) h n = rw n refl
white_space_again (b ∷ w) rest h n = let e = h.0 in rw e (white_space_again w rest h.1 n)

-- the white space at the front, which is all of it
pub record WhiteSpace (t : List ℕ) : Type 0 where
  pub white_space : List ℕ
  pub is : t ≡ white_space ++ after_white_space t
  pub are : IsWhiteSpace white_space

one_more : (x : ℕ) (t : List ℕ) (b : Bool) → is_json_white_space x ≡ b → WhiteSpace t → (w : List ℕ) × (x ∷ t ≡ w ++ cond b (after_white_space t) (x ∷ t)) × IsWhiteSpace w
one_more x t true e more = (x ∷ more.white_space, ap (λ (y : List ℕ). x ∷ y) more.is, (e, more.are))
one_more x t false e more = ([], refl, tt)

pub white_space_takes : (t : List ℕ) → WhiteSpace t
unfolding after_white_space
white_space_takes [] = record { white_space = []; is = refl; are = tt }
white_space_takes (x ∷ t) = let w = one_more x t (is_json_white_space x) refl (white_space_takes t) in record { white_space = w.0; is = w.1; are = w.2 }

pub mark_again : (c : ℕ) (rest : List ℕ) → (c == c) ≡ true → mark_at c (c ∷ rest) ≡ Some rest
unfolding mark_at
mark_again c rest e = rw e refl

pub mark_takes : (c : ℕ) (t r : List ℕ) → mark_at c t ≡ given r → t ≡ c ∷ r
unfolding mark_at
mark_takes c [] r e = absurd (none_is r e)
mark_takes c (x ∷ t) r e = let p = tested (x == c) t r e in let same = eqb-true x c p.0 in let left = p.1 in cc
