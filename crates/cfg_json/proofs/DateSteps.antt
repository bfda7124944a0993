-- Reading the digits of a fraction one by one.
use Rattle.std.proofs.Common.{◌≡◌, ℕ, ◌+◌, ◌*◌, ◌/◌, ◌≤◌, List, [], ◌∷◌, length, true, false, Option, Some, None, refl, sym, ap, ◌∙◌, arith}
use Rattle.std.specs.Prelude.{◌==◌}
use Rattle.std.proofs.lemmas.Bool.{ne_eqb, eq-eqb}
use Rattle.std.proofs.lemmas.List.{nil_from_length}
use Rattle.std.proofs.Math.Nat.{mul-le-mul_right}
use Rattle.cfg_json.specs.ReadingDates.{digit, ReadNumber, add_front, nanos_from}

add_twice : (a b : ℕ) (r : Option ReadNumber) → add_front a (add_front b r) ≡ add_front (a + b) r
add_twice a b (Some r) = ap (λ (n : ℕ). Some (n, r.1)) (omega arith)
add_twice a b None = refl

add_none : (a : ℕ) (t : List ℕ) → add_front a (Some (0, t)) ≡ Some (a, t)
add_none a t = ap (λ (n : ℕ). Some (n, t)) (omega arith)

pub one_digit_more : (nanos weight : ℕ) (rest : List ℕ) (x : ℕ) (t : List ℕ) (d : ℕ) (total : Option ReadNumber) → rest ≡ x ∷ t → digit x ≡ Some d → (weight ≡ 0 → ⊥)
    → add_front nanos (nanos_from weight rest) ≡ total → add_front (nanos + d * weight) (nanos_from (weight / 10) t) ≡ total
unfolding nanos_from
one_digit_more nanos weight rest x t d total is e n so_far =
    let some : (weight == 0) ≡ false = ne_eqb weight 0 n in
    let one : nanos_from weight (x ∷ t) ≡ add_front (d * weight) (nanos_from (weight / 10) t) = rw (e, some) refl in
    sym (add_twice nanos (d * weight) (nanos_from (weight / 10) t)) ∙ sym (ap (add_front nanos) one) ∙ sym (ap (λ (r : List ℕ). add_front nanos (nanos_from weight r)) is) ∙ so_far

pub digits_end : (nanos weight : ℕ) (rest : List ℕ) (x : ℕ) (t : List ℕ) (total : Option ReadNumber) → rest ≡ x ∷ t → digit x ≡ None → add_front nanos (nanos_from weight rest) ≡ total → Some (nanos, rest) ≡ total
unfolding nanos_from
digits_end nanos weight rest x t total is e so_far =
    let one : nanos_from weight (x ∷ t) ≡ Some (0, x ∷ t) = rw e refl in
    ap (λ (r : List ℕ). Some (nanos, r)) is ∙ sym (add_none nanos (x ∷ t)) ∙ sym (ap (add_front nanos) one) ∙ sym (ap (λ (r : List ℕ). add_front nanos (nanos_from weight r)) is) ∙ so_far

pub too_many : (nanos weight : ℕ) (rest : List ℕ) (x : ℕ) (t : List ℕ) (d : ℕ) (total : Option ReadNumber) → rest ≡ x ∷ t → digit x ≡ Some d → weight ≡ 0 → add_front nanos (nanos_from weight rest) ≡ total → None ≡ total
unfolding nanos_from
too_many nanos weight rest x t d total is e z so_far =
    let zero_left : (weight == 0) ≡ true = eq-eqb weight 0 z in
    let one : nanos_from weight (x ∷ t) ≡ None = rw (e, zero_left) refl in
    sym (ap (add_front nanos) one) ∙ sym (ap (λ (r : List ℕ). add_front nanos (nanos_from weight r)) is) ∙ so_far

pub text_ends : (nanos weight : ℕ) (rest : List ℕ) (total : Option ReadNumber) → length rest ≡ 0 → add_front nanos (nanos_from weight rest) ≡ total → Some (nanos, rest) ≡ total
unfolding nanos_from
text_ends nanos weight rest total e so_far =
    let n = nil_from_length rest e in
    ap (λ (r : List ℕ). Some (nanos, r)) n ∙ sym (add_none nanos []) ∙ sym (ap (λ (r : List ℕ). add_front nanos (nanos_from weight r)) n) ∙ so_far

-- a digit counts at most nine times its weight
pub digit_bound : (d weight : ℕ) → d ≤ 9 → d * weight ≤ 9 * weight
digit_bound d weight le = mul-le-mul_right weight le
