-- A number is read as the grammar says, and what is read is a number.
use Rattle.std.proofs.Common.{◌≡◌, ℕ, zero, suc, ◌<◌, ◌≤◌, ◌⊎◌, inl, inr, List, [], ◌∷◌, ◌++◌, Bool, true, false, cond, Some, refl, sym, ap, subst, ◌∙◌, append_assoc, arith}
use Rattle.std.specs.Prelude.{◌≢◌, ◌||◌, ◌==◌}
use Rattle.std.specs.Char.{is_ascii_digit}
use Rattle.std.specs.Str.{IsAscii}
use Rattle.std.proofs.lemmas.Bool.{eqb-true, eqb-false, ne_eqb, eq-eqb, or_from, or_left, or_right, or_cases, both_ways, leb-true, and_parts}
use Rattle.std.proofs.lemmas.Str.{IsAscii-append}
use Rattle.cfg_json.specs.Ascii.{plus_sign, hyphen_minus, full_stop, digit_zero, digit_nine, capital_e, small_e}
use Rattle.cfg_json.specs.Numbers.{AllDigits, AreDigits, IsWhole, IsFraction, IsSigned, IsExponent, IsMinus, IsNumber}
use Rattle.cfg_json.specs.Reads.{◌>>=◌}
use Rattle.cfg_json.specs.Reading.{after_digits, digits_at, after_minus, after_sign, whole_at, fraction_at, exponent_at, number_at}
use Rattle.cfg_json.proofs.Options.{given, nothing, none_is, given_is, bind_some, chosen}

-- what may follow digits, and what may follow a number

abbrev pub NoDigit : List ℕ → Type 0
NoDigit [] = Unit {0}
NoDigit (x ∷ t) = is_ascii_digit x ≡ false

abbrev NoPoint : List ℕ → Type 0
NoPoint [] = Unit {0}
NoPoint (x ∷ t) = (x == full_stop) ≡ false

abbrev pub is_exponent_mark : ℕ → Bool
is_exponent_mark x = (x == small_e) || (x == capital_e)

pub record IsEnd (x : ℕ) : Type 0 where
  pub digit : is_ascii_digit x ≡ false
  pub point : (x == full_stop) ≡ false
  pub exponent : is_exponent_mark x ≡ false

abbrev pub EndsNumber : List ℕ → Type 0
EndsNumber [] = Unit {0}
EndsNumber (x ∷ t) = IsEnd x

no_digit_is : (x c : ℕ) → is_ascii_digit c ≡ false → x ≡ c → is_ascii_digit x ≡ false
no_digit_is x c e same = ap is_ascii_digit same ∙ e

pub digit_is_no : (x c : ℕ) → is_ascii_digit c ≡ false → is_ascii_digit x ≡ true → (x == c) ≡ false
digit_is_no x c e d = ne_eqb x c (λ same. both_ways (is_ascii_digit x) (no_digit_is x c e same) d)

-- ---- what is a number is read

digits_again : (ds rest : List ℕ) → AllDigits ds → NoDigit rest → after_digits (ds ++ rest) ≡ rest
unfolding after_digits
digits_again [] [] h e = refl
digits_again [] (x ∷ t) h e = rw e refl
digits_again (x ∷ ds) rest h e = let d = h.0 in rw d (digits_again ds rest h.1 e)

some_again : (ds rest : List ℕ) → AreDigits ds → NoDigit rest → digits_at (ds ++ rest) ≡ Some rest
unfolding digits_at
some_again [] rest h e = absurd h
some_again (x ∷ ds) rest h e = let d = h.0 in rw d (ap Some (digits_again ds rest h.1 e))

whole_again : (w rest : List ℕ) → IsWhole w → NoDigit rest → whole_at (w ++ rest) ≡ Some rest
unfolding whole_at
whole_again [] rest h e = absurd h
whole_again (x ∷ w) rest h e =
    elim h [
      | inl z ↦ (let i : (x == digit_zero) ≡ true = eq-eqb x digit_zero z.0 in rw i (ap (λ (t : List ℕ). Some (t ++ rest)) z.1))
      | inr z ↦ (let i : (x == digit_zero) ≡ false = ne_eqb x digit_zero z.0 in rw i (some_again (x ∷ w) rest z.1 e))
    ]

fraction_again : (f rest : List ℕ) → IsFraction f → NoDigit rest → NoPoint rest → fraction_at (f ++ rest) ≡ Some rest
unfolding fraction_at
fraction_again [] [] h d p = refl
fraction_again [] (x ∷ t) h d p = rw p refl
fraction_again (x ∷ f) rest h d p = let i : (x == full_stop) ≡ true = eq-eqb x full_stop h.0 in rw i (some_again f rest h.1 d)

signed_again : (s rest : List ℕ) → IsSigned s → NoDigit rest → digits_at (after_sign (s ++ rest)) ≡ Some rest
unfolding after_sign
signed_again [] rest h e = absurd h
signed_again (x ∷ s) rest h e =
    elim h [
      | inl z ↦ (let i : ((x == plus_sign) || (x == hyphen_minus)) ≡ true = elim z.0 [ inl a ↦ or_left _ _ (eq-eqb x plus_sign a) | inr a ↦ or_right _ _ (eq-eqb x hyphen_minus a) ] in rw i (some_again s rest z.1 e))
      | inr z ↦ (let i : ((x == plus_sign) || (x == hyphen_minus)) ≡ false = or_from _ _ (digit_is_no x plus_sign refl z.0) (digit_is_no x hyphen_minus refl z.0) in rw i (some_again (x ∷ s) rest z e))
    ]

mark_is : (x : ℕ) → (x ≡ small_e) ⊎ (x ≡ capital_e) → is_exponent_mark x ≡ true
mark_is x h = elim h [ inl a ↦ or_left _ _ (eq-eqb x small_e a) | inr a ↦ or_right _ _ (eq-eqb x capital_e a) ]

ends_no_digit : (rest : List ℕ) → EndsNumber rest → NoDigit rest
ends_no_digit [] h = tt
ends_no_digit (x ∷ t) h = h.digit

exponent_again : (e rest : List ℕ) → IsExponent e → EndsNumber rest → exponent_at (e ++ rest) ≡ Some rest
unfolding exponent_at
exponent_again [] [] h n = refl
exponent_again [] (x ∷ t) h n = let i = n.exponent in rw i refl
exponent_again (x ∷ e) rest h n = let i = mark_is x h.0 in rw i (signed_again e rest h.1 (ends_no_digit rest n))

exponent_no_digit : (e rest : List ℕ) → IsExponent e → EndsNumber rest → NoDigit (e ++ rest)
exponent_no_digit [] rest h n = ends_no_digit rest n
exponent_no_digit (x ∷ e) rest h n = elim h.0 [ inl a ↦ no_digit_is x small_e refl a | inr a ↦ no_digit_is x capital_e refl a ]

exponent_no_point : (e rest : List ℕ) → IsExponent e → EndsNumber rest → NoPoint (e ++ rest)
exponent_no_point [] [] h n = tt
exponent_no_point [] (x ∷ t) h n = n.point
exponent_no_point (x ∷ e) rest h n = elim h.0 [ inl a ↦ ap (λ y. y == full_stop) a | inr a ↦ ap (λ y. y == full_stop) a ]

fraction_no_digit : (f e rest : List ℕ) → IsFraction f → IsExponent e → EndsNumber rest → NoDigit (f ++ (e ++ rest))
fraction_no_digit [] e rest h k n = exponent_no_digit e rest k n
fraction_no_digit (x ∷ f) e rest h k n = no_digit_is x full_stop refl h.0

body_again : (w f e rest : List ℕ) → IsWhole w → IsFraction f → IsExponent e → EndsNumber rest
    → (whole_at (w ++ (f ++ (e ++ rest))) >>= λ r. fraction_at r >>= λ r. exponent_at r) ≡ Some rest
body_again w f e rest hw hf he n =
    let a : whole_at (w ++ (f ++ (e ++ rest))) ≡ Some (f ++ (e ++ rest)) = whole_again w (f ++ (e ++ rest)) hw (fraction_no_digit f e rest hf he n) in
    let b : fraction_at (f ++ (e ++ rest)) ≡ Some (e ++ rest) = fraction_again f (e ++ rest) hf (exponent_no_digit e rest he n) (exponent_no_point e rest he n) in
    rw (a, b) (exponent_again e rest he n)

whole_head : (w t : List ℕ) → IsWhole w → after_minus (w ++ t) ≡ w ++ t
unfolding after_minus
whole_head [] t h = absurd h
whole_head (x ∷ w) t h =
    let i : (x == hyphen_minus) ≡ false = elim h [ inl z ↦ ap (λ y. y == hyphen_minus) z.0 | inr z ↦ digit_is_no x hyphen_minus refl z.1.0 ] in
    rw i refl

minus_again : (m w t : List ℕ) → IsMinus m → IsWhole w → after_minus (m ++ (w ++ t)) ≡ w ++ t
unfolding after_minus
minus_again [] w t h hw = whole_head w t hw
minus_again (x ∷ m) w t h hw = let i : (x == hyphen_minus) ≡ true = eq-eqb x hyphen_minus h.0 in rw i (ap (λ (y : List ℕ). y ++ (w ++ t)) h.1)

regroup : (m w f e rest : List ℕ) → (m ++ (w ++ (f ++ e))) ++ rest ≡ m ++ (w ++ (f ++ (e ++ rest)))
regroup m w f e rest = simp append_assoc

pub number_again : (n rest : List ℕ) → IsNumber n → EndsNumber rest → number_at (n ++ rest) ≡ Some rest
unfolding number_at
number_again n rest h e =
    let is : after_minus (n ++ rest) ≡ h.whole ++ (h.fraction ++ (h.exponent ++ rest)) =
    ap (λ (x : List ℕ). after_minus (x ++ rest)) h.is ∙ ap after_minus (regroup h.minus h.whole h.fraction h.exponent rest) ∙ minus_again h.minus h.whole _ h.is_minus h.is_whole in
    ap (λ (t : List ℕ). whole_at t >>= λ r. fraction_at r >>= λ r. exponent_at r) is ∙ body_again h.whole h.fraction h.exponent rest h.is_whole h.is_fraction h.is_exponent e

-- ---- what is read is a number

digit_case : (x : ℕ) (t : List ℕ) (b : Bool) → is_ascii_digit x ≡ b → ((ds : List ℕ) × (t ≡ ds ++ after_digits t) × AllDigits ds)
    → (ds : List ℕ) × (x ∷ t ≡ ds ++ cond b (after_digits t) (x ∷ t)) × AllDigits ds
digit_case x t true e more = (x ∷ more.0, ap (λ (y : List ℕ). x ∷ y) more.1, (e, more.2))
digit_case x t false e more = ([], refl, tt)

digits_take : (t : List ℕ) → (ds : List ℕ) × (t ≡ ds ++ after_digits t) × AllDigits ds
unfolding after_digits
digits_take [] = ([], refl, tt)
digits_take (x ∷ t) = digit_case x t (is_ascii_digit x) refl (digits_take t)

some_take : (t r : List ℕ) → digits_at t ≡ given r → (ds : List ℕ) × (t ≡ ds ++ r) × AreDigits ds
unfolding digits_at
some_take [] r e = absurd (none_is r e)
some_take (x ∷ t) r e =
    elim (chosen (is_ascii_digit x) (given (after_digits t)) nothing (given r) e) [
      | inl w ↦ (let d = digits_take t in (x ∷ d.0, ap (λ (y : List ℕ). x ∷ y) (d.1 ∙ ap (λ (y : List ℕ). d.0 ++ y) (given_is _ _ w.1)), (w.0, d.2)))
      | inr w ↦ absurd (none_is r w.1)
    ]

-- digits whose first is the text's first
first_is : (ds : List ℕ) (x : ℕ) (t r : List ℕ) → x ∷ t ≡ ds ++ r → (x ≢ digit_zero) → AreDigits ds → IsWhole ds
first_is [] x t r e n h = absurd h
first_is (y ∷ ds) x t r e n h = let same : x ≡ y = cc in inr ((λ z. n (same ∙ z)), h)

digits_whole : (x : ℕ) (t r : List ℕ) → (x ≢ digit_zero) → ((ds : List ℕ) × (x ∷ t ≡ ds ++ r) × AreDigits ds) → (w : List ℕ) × (x ∷ t ≡ w ++ r) × IsWhole w
digits_whole x t r n d = (d.0, d.1, first_is d.0 x t r d.1 n d.2)

whole_takes : (t r : List ℕ) → whole_at t ≡ given r → (w : List ℕ) × (t ≡ w ++ r) × IsWhole w
unfolding whole_at
whole_takes [] r e = absurd (none_is r e)
whole_takes (x ∷ t) r e =
    elim (chosen (x == digit_zero) (given t) (digits_at (x ∷ t)) (given r) e) [
      | inl w ↦ (let i : x ≡ digit_zero = eqb-true x digit_zero w.0 in (x ∷ [], ap (λ (y : List ℕ). x ∷ y) (given_is _ _ w.1), inl (i, refl)))
      | inr w ↦ digits_whole x t r (eqb-false x digit_zero w.0) (some_take (x ∷ t) r w.1)
    ]

fraction_takes : (t r : List ℕ) → fraction_at t ≡ given r → (f : List ℕ) × (t ≡ f ++ r) × IsFraction f
unfolding fraction_at
fraction_takes [] r e = ([], given_is _ _ e, tt)
fraction_takes (x ∷ t) r e =
    elim (chosen (x == full_stop) (digits_at t) (given (x ∷ t)) (given r) e) [
      | inl w ↦ (let d = some_take t r w.1 in (x ∷ d.0, ap (λ (y : List ℕ). x ∷ y) d.1, (eqb-true x full_stop w.0, d.2)))
      | inr w ↦ ([], given_is _ _ w.1, tt)
    ]

sign_case : (x : ℕ) (t r : List ℕ) (b : Bool) → ((x == plus_sign) || (x == hyphen_minus)) ≡ b → digits_at (cond b t (x ∷ t)) ≡ given r → (s : List ℕ) × (x ∷ t ≡ s ++ r) × IsSigned s
sign_case x t r true i e =
    let d = some_take t r e in
    (x ∷ d.0, ap (λ (y : List ℕ). x ∷ y) d.1, inl (elim (or_cases _ _ i) [ inl a ↦ inl (eqb-true x plus_sign a) | inr a ↦ inr (eqb-true x hyphen_minus a) ], d.2))
sign_case x t r false i e = let d = some_take (x ∷ t) r e in (d.0, d.1, digits_signed d.0 d.2) where
  digits_signed : (ds : List ℕ) → AreDigits ds → IsSigned ds
  digits_signed [] h = absurd h
  digits_signed (y ∷ ds) h = inr h

signed_takes : (t r : List ℕ) → digits_at (after_sign t) ≡ given r → (s : List ℕ) × (t ≡ s ++ r) × IsSigned s
unfolding after_sign digits_at
signed_takes [] r e = absurd (none_is r e)
signed_takes (x ∷ t) r e = sign_case x t r ((x == plus_sign) || (x == hyphen_minus)) refl e

exponent_takes : (t r : List ℕ) → exponent_at t ≡ given r → (x : List ℕ) × (t ≡ x ++ r) × IsExponent x
unfolding exponent_at
exponent_takes [] r e = ([], given_is _ _ e, tt)
exponent_takes (x ∷ t) r e =
    elim (chosen (is_exponent_mark x) (digits_at (after_sign t)) (given (x ∷ t)) (given r) e) [
      | inl w ↦ (let d = signed_takes t r w.1 in
          (x ∷ d.0, ap (λ (y : List ℕ). x ∷ y) d.1, (elim (or_cases _ _ w.0) [ inl a ↦ inl (eqb-true x small_e a) | inr a ↦ inr (eqb-true x capital_e a) ], d.2)))
      | inr w ↦ ([], given_is _ _ w.1, tt)
    ]

minus_case : (x : ℕ) (t : List ℕ) (b : Bool) → (x == hyphen_minus) ≡ b → (m : List ℕ) × (x ∷ t ≡ m ++ cond b t (x ∷ t)) × IsMinus m
minus_case x t true e = (x ∷ [], refl, (eqb-true x hyphen_minus e, refl))
minus_case x t false e = ([], refl, tt)

minus_takes : (t : List ℕ) → (m : List ℕ) × (t ≡ m ++ after_minus t) × IsMinus m
unfolding after_minus
minus_takes [] = ([], refl, tt)
minus_takes (x ∷ t) = minus_case x t (x == hyphen_minus) refl

pub number_takes : (t r : List ℕ) → number_at t ≡ given r → (n : List ℕ) × (t ≡ n ++ r) × IsNumber n
unfolding number_at
number_takes t r e =
    let m = minus_takes t in
    let a = bind_some (whole_at (after_minus t)) (λ r. fraction_at r >>= λ r. exponent_at r) r e in
    let b = bind_some (fraction_at a.0) exponent_at r a.2 in
    let w = whole_takes (after_minus t) a.0 a.1 in
    let f = fraction_takes a.0 b.0 b.1 in
    let x = exponent_takes b.0 r b.2 in (
      m.0 ++ (w.0 ++ (f.0 ++ x.0)),
      m.1 ∙ ap (λ (y : List ℕ). m.0 ++ y) (w.1 ∙ ap (λ (y : List ℕ). w.0 ++ y) (f.1 ∙ ap (λ (y : List ℕ). f.0 ++ y) x.1)) ∙ sym (regroup m.0 w.0 f.0 x.0 r),
      record { minus = m.0; whole = w.0; fraction = f.0; exponent = x.0; is = refl; is_minus = m.2; is_whole = w.2; is_fraction = f.2; is_exponent = x.2 },
    )

-- ---- a number is ASCII

pub cons_ascii : (x : ℕ) (t : List ℕ) → x < 128 → IsAscii t → IsAscii (x ∷ t)
cons_ascii x t lt h zero = lt
cons_ascii x t lt h (suc i) = h i

pub nil_ascii : IsAscii []
nil_ascii i = omega arith

pub digit_small : (x : ℕ) → is_ascii_digit x ≡ true → x < 128
digit_small x e = let p = and_parts _ _ e in let high : x ≤ digit_nine = leb-true _ _ p.1 in omega arith

digits_ascii : (ds : List ℕ) → AllDigits ds → IsAscii ds
digits_ascii [] h = nil_ascii
digits_ascii (x ∷ ds) h = cons_ascii x ds (digit_small x h.0) (digits_ascii ds h.1)

pub some_ascii : (ds : List ℕ) → AreDigits ds → IsAscii ds
some_ascii [] h = absurd h
some_ascii (x ∷ ds) h = digits_ascii (x ∷ ds) h

whole_ascii : (w : List ℕ) → IsWhole w → IsAscii w
whole_ascii [] h = absurd h
whole_ascii (x ∷ w) h = elim h [ inl z ↦ cons_ascii x w (omega (arith, z.0)) (subst IsAscii (sym z.1) nil_ascii) | inr z ↦ some_ascii (x ∷ w) z.1 ]

fraction_ascii : (f : List ℕ) → IsFraction f → IsAscii f
fraction_ascii [] h = nil_ascii
fraction_ascii (x ∷ f) h = cons_ascii x f (omega (arith, h.0)) (some_ascii f h.1)

signed_ascii : (s : List ℕ) → IsSigned s → IsAscii s
signed_ascii [] h = absurd h
signed_ascii (x ∷ s) h = elim h [
  | inl z ↦ cons_ascii x s (elim z.0 [ inl a ↦ omega (arith, a) | inr a ↦ omega (arith, a) ]) (some_ascii s z.1)
  | inr z ↦ some_ascii (x ∷ s) z
]

exponent_ascii : (e : List ℕ) → IsExponent e → IsAscii e
exponent_ascii [] h = nil_ascii
exponent_ascii (x ∷ e) h = cons_ascii x e (elim h.0 [ inl a ↦ omega (arith, a) | inr a ↦ omega (arith, a) ]) (signed_ascii e h.1)

minus_ascii : (m : List ℕ) → IsMinus m → IsAscii m
minus_ascii [] h = nil_ascii
minus_ascii (x ∷ m) h = cons_ascii x m (omega (arith, h.0)) (subst IsAscii (sym h.1) nil_ascii)

pub number_ascii : (n : List ℕ) → IsNumber n → IsAscii n
number_ascii n h =
    subst IsAscii (sym h.is)
    (IsAscii-append h.minus _ (minus_ascii h.minus h.is_minus) (IsAscii-append h.whole _ (whole_ascii h.whole h.is_whole)
    (IsAscii-append h.fraction h.exponent (fraction_ascii h.fraction h.is_fraction) (exponent_ascii h.exponent h.is_exponent))))
