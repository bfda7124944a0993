-- The number that `parse` reads, as a function of the text.
use Rattle.std.proofs.Common.{◌≡◌, ℕ, ◌<◌, ◌^◌, List, [], ◌∷◌, Bool, true, false, Some, None, refl, ap, arith, tests, lt-ltb}
use Rattle.std.specs.Prelude.{◌&&◌, nat_lt, if◌then◌else◌}
use Rattle.std.specs.List.{list_all}
use Rattle.std.specs.Char.{is_digit, digit_value}
use Rattle.std.specs.Str.Parse.{AllDigits, IsNumeral, digits_value, without_leading_plus}
use Rattle.cfg_exchange.specs.Lifetimes.{are_digits, number}

pub less : (n m : ℕ) → nat_lt n m ≡ true → n < m
less n m h = grind (arith, tests)

both : (a b : Bool) → (a && b) ≡ true → (a ≡ true) × (b ≡ true)
both true b h = (refl, h)
both false b h = absurd cc

all_true : (ds : List ℕ) → AllDigits 10 ds → list_all (λ c. is_digit c 10) ds ≡ true
all_true [] h = refl
all_true (c ∷ cs) h = rw (lt-ltb (digit_value c) 10 h.0) (all_true cs h.1)

true_all : (ds : List ℕ) → list_all (λ c. is_digit c 10) ds ≡ true → AllDigits 10 ds
true_all [] h = tt
true_all (c ∷ cs) h = let p = both (nat_lt (digit_value c) 10) (list_all (λ c. is_digit c 10) cs) h in (less (digit_value c) 10 p.0, true_all cs p.1)

-- digits alone, one or more, are a numeral, and the other way round
pub digits_are : (ds : List ℕ) → IsNumeral 10 ds → are_digits ds ≡ true
digits_are [] h = absurd (omega (arith, h.0))
digits_are (c ∷ cs) h = all_true (c ∷ cs) h.1

pub are_numeral : (ds : List ℕ) → are_digits ds ≡ true → IsNumeral 10 ds
are_numeral [] h = absurd cc
are_numeral (c ∷ cs) h = (omega arith, true_all (c ∷ cs) h)

pub number_is : (text : List ℕ) (n : ℕ) → IsNumeral 10 (without_leading_plus text) × (digits_value 10 (without_leading_plus text) < 2 ^ 64) → n ≡ digits_value 10 (without_leading_plus text) → Some n ≡ number text
number_is text n h e = rw (digits_are (without_leading_plus text) h.0, lt-ltb (digits_value 10 (without_leading_plus text)) (2 ^ 64) h.1) (ap Some e)

pub no_number : (text : List ℕ) → (IsNumeral 10 (without_leading_plus text) × (digits_value 10 (without_leading_plus text) < 2 ^ 64) → ⊥) → None ≡ number text
no_number text h = by_digits (are_digits ds) refl where
  ds : List ℕ
  ds = without_leading_plus text

  by_bound : (b : Bool) → nat_lt (digits_value 10 ds) (2 ^ 64) ≡ b → are_digits ds ≡ true → None ≡ (if b then Some (digits_value 10 ds) else None)
  by_bound true e d = absurd (h (are_numeral ds d, less (digits_value 10 ds) (2 ^ 64) e))
  by_bound false e d = refl

  by_digits : (b : Bool) → are_digits ds ≡ b → None ≡ (if b && nat_lt (digits_value 10 ds) (2 ^ 64) then Some (digits_value 10 ds) else None)
  by_digits true e = by_bound (nat_lt (digits_value 10 ds) (2 ^ 64)) refl e
  by_digits false e = refl
