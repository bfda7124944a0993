-- What `parse` reads is the number of a text.
use Rattle.std.proofs.Common.{◌≡◌, ℕ, ◌<◌, ◌≤◌, ◌^◌, List, [], ◌∷◌, length, Bool, true, false, cond, Option, Some, None, Result, Ok, Err, refl, ap, sym, ◌∙◌, arith, rules}
use Rattle.std.specs.Prelude.{◌≢◌, not, ◌==◌, nat_lt, slice_get}
use Rattle.std.specs.Str.{all_ascii_digits}
use Rattle.std.specs.Str.Parse.{ParsesUnsigned}
use Rattle.std.proofs.lemmas.Str.Parse.{IsNumeralModel, numerals_by_fold, parse_plain}
use Rattle.std.proofs.lemmas.Bool.{ltb-false, le-ltb, lt-ltb, ne_eqb, and_parts, and_from}
use Rattle.cfg_program.specs.Commands.{number_after, is_numeral, most_profiles, up_to_most, count_of}

own : IsNumeralModel (λ ds. all_ascii_digits ds ≡ true) (number_after 0)
own = numerals_by_fold _ (search rules) number_after (search rules)

-- the number of what was read
abbrev pub counted : {E : Type 0} → Result ℕ E → Option ℕ
counted (Ok n) = up_to_most n
counted (Err e) = None

numeral_is : (d : ℕ) (ds : List ℕ) → d ≢ 48 → all_ascii_digits (d ∷ ds) ≡ true → is_numeral (d ∷ ds) ≡ true
numeral_is d ds ne all = and_from (not (d == 48)) (all_ascii_digits (d ∷ ds)) (ap not (ne_eqb d 48 ne)) all

too_much : (v : ℕ) → ¬ (v < 2 ^ 64) → (b : Bool) → nat_lt most_profiles v ≡ b → cond b None (Some v) ≡ None
too_much v h true e = refl
too_much v h false e = absurd (h (let most = ltb-false most_profiles v e in omega (arith, most)))

unread : (d : ℕ) (ds : List ℕ) → ¬ ((all_ascii_digits (d ∷ ds) ≡ true) × (0 < length (d ∷ ds)) × (number_after 0 (d ∷ ds) < 2 ^ 64))
    → (b : Bool) → is_numeral (d ∷ ds) ≡ b → cond b (up_to_most (number_after 0 (d ∷ ds))) None ≡ None
unread d ds h false e = refl
unread d ds h true e =
    let digits = and_parts (not (d == 48)) (all_ascii_digits (d ∷ ds)) e in
    too_much (number_after 0 (d ∷ ds)) (λ small. h (digits.1, omega arith, small)) (nat_lt most_profiles (number_after 0 (d ∷ ds))) refl

read_is : {E : Type 0} (d : ℕ) (ds : List ℕ) (r : Result ℕ E) → ParsesUnsigned 64 10 (d ∷ ds) r → d ≢ 48 → d ≢ 43 → count_of (d ∷ ds) ≡ counted r
read_is {E} d ds (Ok n) h zero_first plus_first =
    let p = parse_plain own {E = E} 64 (d ∷ ds) (Ok n) h plus_first in
    ap (λ b. cond b (up_to_most (number_after 0 (d ∷ ds))) None) (numeral_is d ds zero_first p.0.0) ∙ ap up_to_most (sym p.1)
read_is {E} d ds (Err e) h zero_first plus_first = unread d ds (parse_plain own {E = E} 64 (d ∷ ds) (Err e) h plus_first) (is_numeral (d ∷ ds)) refl

-- the number of a text that does not begin with `0` or `+`
pub count_is : {E : Type 0} (bs : List ℕ) (first : ℕ) (r : Result ℕ E) → Some first ≡ slice_get bs 0 → ParsesUnsigned 64 10 bs r → first ≢ 48 → first ≢ 43 → count_of bs ≡ counted r
count_is [] first r e h zero_first plus_first = cc
count_is (d ∷ ds) first r e h zero_first plus_first =
    let same : first ≡ d = cc in
    read_is d ds r h (λ is. zero_first (same ∙ is)) (λ is. plus_first (same ∙ is))

pub is_up_to_most : (n : ℕ) → n ≤ most_profiles → up_to_most n ≡ Some n
is_up_to_most n h = ap (λ b. cond b None (Some n)) (le-ltb most_profiles n h)

pub is_too_much : (n : ℕ) → most_profiles < n → up_to_most n ≡ None
is_too_much n h = ap (λ b. cond b None (Some n)) (lt-ltb most_profiles n h)
