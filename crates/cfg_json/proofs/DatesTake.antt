-- What is read as a moment stands for it.
use Rattle.std.proofs.Common.{◌≡◌, ℕ, ◌+◌, ◌-◌, ◌*◌, ◌/◌, ◌%◌, ◌<◌, ◌≤◌, ◌⊎◌, inl, inr, List, [], ◌∷◌, ◌++◌, length, Bool, true, false, cond, Option, Some, None, refl, sym, ap, subst, ◌∙◌, arith}
use Rattle.std.specs.Prelude.{◌↔◌, ◌&&◌, ◌||◌, nat_le, nat_lt, ◌==◌, ℤ, pos, neg_ℤ, ◌-ℤ◌, IfSome}
use Rattle.std.specs.Char.{is_ascii_digit}
use Rattle.std.specs.Str.{IsAscii, IsUtf8, encode_utf8_all, all_scalars}
use Rattle.jiff_core.proofs.CalendarLemmas.{days_in_month_bounds}
use Rattle.std.proofs.lemmas.Bool.{and_parts, eqb-true, eqb-false, or_cases}
use Rattle.std.proofs.lemmas.Str.{IsAscii-append, chars-IsAscii, encodes-IsAscii}
use borrow.Author.Tests.{ltb-true, leb-true}
use Rattle.cfg_base.specs.Moment.{Moment}
use Rattle.cfg_base.specs.Text.{characters}
use Rattle.cfg_base.proofs.TextLemmas.{characters-chars, characters-encodes, encodes-chars}
use Rattle.cfg_json.specs.Ascii.{plus_sign, hyphen_minus, full_stop, digit_zero, digit_nine, colon, capital_t, capital_z, small_t, small_z}
use Rattle.cfg_json.specs.Reads.{◌>>=◌}
use Rattle.cfg_json.specs.Numbers.{AllDigits}
use Rattle.cfg_json.specs.Reading.{mark_at}
use Rattle.cfg_json.specs.declared.dates.local.LocalTime.{LocalTime}
use Rattle.cfg_json.specs.Dates.{two, four, IsCommonDate, Exists, spelled, seconds_of, fraction_value, first_weight, IsSecondFraction, IsZulu, IsNumericOffset, IsTimeText}
use Rattle.cfg_json.specs.ReadingDates.{digit, two_at, four_at, next_at, either_at, ReadThree, three_read, day_at, clock_at, local_at, ReadNumber, by_digit, add_front, nanos_from, nanos_at, second_fraction_at, is_civil, is_clock, if_last, offset_at, zone_of, moment_at}
use Rattle.cfg_json.proofs.Options.{given, nothing, none_is, given_is, bind_some, chosen, tested}
use Rattle.cfg_json.proofs.WhiteSpaceLaws.{mark_takes}
use Rattle.cfg_json.proofs.NumberLaws.{cons_ascii, nil_ascii, some_ascii}
use Rattle.cfg_json.proofs.DatesAgain.{Lasts, Zones, moment_again}

digit_takes : (c n : ℕ) → digit c ≡ given n → (c ≡ digit_zero + n) × (n < 10)
digit_takes c n e =
    let t = tested (nat_le digit_zero c && nat_le c digit_nine) (c - digit_zero) n e in
    let b = and_parts _ _ t.0 in
    let low : digit_zero ≤ c = leb-true _ _ b.0 in
    let high : c ≤ digit_nine = leb-true _ _ b.1 in
    let is : c - digit_zero ≡ n = t.1 in
    (omega arith, omega arith)

abbrev Field : Type 0
Field = ℕ × List ℕ

two_takes : (t : List ℕ) (p : Field) → two_at t ≡ given p → (t ≡ two p.0 ++ p.1) × (p.0 < 100)
unfolding two_at
two_takes [] p e = absurd (none_is p e)
two_takes (a ∷ []) p e = absurd (none_is p e)
two_takes (a ∷ b ∷ t) p e =
    let x = bind_some (digit a) (λ x. digit b >>= λ y. Some (x * 10 + y, t)) p e in
    let y = bind_some (digit b) (λ y. Some (x.0 * 10 + y, t)) p x.2 in
    let made : Field = (x.0 * 10 + y.0, t) in
    let da = digit_takes a x.0 x.1 in
    let db = digit_takes b y.0 y.1 in
    let ea : a ≡ digit_zero + (x.0 * 10 + y.0) / 10 = omega (arith, da.0, da.1, db.1) in
    let eb : b ≡ digit_zero + (x.0 * 10 + y.0) % 10 = omega (arith, db.0, da.1, db.1) in
    subst (λ (q : Field). (a ∷ b ∷ t ≡ two q.0 ++ q.1) × (q.0 < 100)) (given_is made p y.2) (ap (λ (z : ℕ). z ∷ b ∷ t) ea ∙ ap (λ (z : ℕ). (digit_zero + (x.0 * 10 + y.0) / 10) ∷ z ∷ t) eb, omega (arith, da.1, db.1))

four_takes : (t : List ℕ) (p : Field) → four_at t ≡ given p → t ≡ four p.0 ++ p.1
unfolding four_at
four_takes t p e =
    let a = bind_some (two_at t) (λ a. two_at a.1 >>= λ b. Some (a.0 * 100 + b.0, b.1)) p e in
    let b = bind_some (two_at a.0.1) (λ b. Some (a.0.0 * 100 + b.0, b.1)) p a.2 in
    let ta = two_takes t a.0 a.1 in
    let tb = two_takes a.0.1 b.0 b.1 in
    let made : Field = (a.0.0 * 100 + b.0.0, b.0.1) in
    let ea : a.0.0 ≡ (a.0.0 * 100 + b.0.0) / 100 = omega (arith, ta.1, tb.1) in
    let eb : b.0.0 ≡ (a.0.0 * 100 + b.0.0) % 100 = omega (arith, ta.1, tb.1) in
    subst (λ (q : Field). t ≡ four q.0 ++ q.1) (given_is made p b.2)
    (ta.0 ∙ ap (λ (z : List ℕ). two a.0.0 ++ z) tb.0 ∙ ap (λ (z : ℕ). two z ++ (two b.0.0 ++ b.0.1)) ea ∙ ap (λ (z : ℕ). two ((a.0.0 * 100 + b.0.0) / 100) ++ (two z ++ b.0.1)) eb)

next_takes : (c : ℕ) (t : List ℕ) (p : Field) → next_at c t ≡ given p → t ≡ c ∷ (two p.0 ++ p.1)
unfolding next_at
next_takes c t p e =
    let a = bind_some (mark_at c t) two_at p e in
    mark_takes c t a.0 a.1 ∙ ap (λ (z : List ℕ). c ∷ z) (two_takes a.0 p a.2).0

-- the character between a date and a time
record Mark (t r : List ℕ) : Type 0 where
  mark : ℕ
  is : t ≡ mark ∷ r
  is_mark : (mark ≡ capital_t) ⊎ (mark ≡ small_t)

mark_is : (t r : List ℕ) → either_at capital_t small_t t ≡ given r → Mark t r
unfolding either_at
mark_is [] r e = absurd (none_is r e)
mark_is (x ∷ t) r e =
    let w = tested ((x == capital_t) || (x == small_t)) t r e in
    record { mark = x; is = ap (λ (y : List ℕ). x ∷ y) w.1; is_mark = elim (or_cases _ _ w.0) [ inl a ↦ inl (eqb-true x capital_t a) | inr a ↦ inr (eqb-true x small_t a) ] }

abbrev ReadLocal : Type 0
ReadLocal = LocalTime × List ℕ

abbrev LocalFront : List ℕ → LocalTime → List ℕ → Type 0
LocalFront t l rest = (mark : ℕ) × (t ≡ spelled l mark rest) × ((mark ≡ capital_t) ⊎ (mark ≡ small_t))

day_takes : (t : List ℕ) (p : ReadThree) → day_at t ≡ given p → t ≡ four p.0.0 ++ (hyphen_minus ∷ (two p.0.1 ++ (hyphen_minus ∷ (two p.0.2 ++ p.1))))
unfolding day_at
day_takes t p e =
    let y = bind_some (four_at t) (λ y. next_at hyphen_minus y.1 >>= λ m. next_at hyphen_minus m.1 >>= λ d. three_read y.0 m.0 d.0 d.1) p e in
    let m = bind_some (next_at hyphen_minus y.0.1) (λ m. next_at hyphen_minus m.1 >>= λ d. three_read y.0.0 m.0 d.0 d.1) p y.2 in
    let d = bind_some (next_at hyphen_minus m.0.1) (λ d. three_read y.0.0 m.0.0 d.0 d.1) p m.2 in
    let made : ReadThree = ((y.0.0, m.0.0, d.0.0), d.0.1) in
    let text : t ≡ four y.0.0 ++ (hyphen_minus ∷ (two m.0.0 ++ (hyphen_minus ∷ (two d.0.0 ++ d.0.1)))) =
    four_takes t y.0 y.1 ∙ ap (λ (z : List ℕ). four y.0.0 ++ z) (next_takes hyphen_minus y.0.1 m.0 m.1 ∙ ap (λ (z : List ℕ). hyphen_minus ∷ (two m.0.0 ++ z)) (next_takes hyphen_minus m.0.1 d.0 d.1)) in
    subst (λ (q : ReadThree). t ≡ four q.0.0 ++ (hyphen_minus ∷ (two q.0.1 ++ (hyphen_minus ∷ (two q.0.2 ++ q.1))))) (given_is made p d.2) text

clock_takes : (t : List ℕ) (p : ReadThree) → clock_at t ≡ given p → t ≡ two p.0.0 ++ (colon ∷ (two p.0.1 ++ (colon ∷ (two p.0.2 ++ p.1))))
unfolding clock_at
clock_takes t p e =
    let h = bind_some (two_at t) (λ h. next_at colon h.1 >>= λ m. next_at colon m.1 >>= λ s. three_read h.0 m.0 s.0 s.1) p e in
    let m = bind_some (next_at colon h.0.1) (λ m. next_at colon m.1 >>= λ s. three_read h.0.0 m.0 s.0 s.1) p h.2 in
    let s = bind_some (next_at colon m.0.1) (λ s. three_read h.0.0 m.0.0 s.0 s.1) p m.2 in
    let made : ReadThree = ((h.0.0, m.0.0, s.0.0), s.0.1) in
    let text : t ≡ two h.0.0 ++ (colon ∷ (two m.0.0 ++ (colon ∷ (two s.0.0 ++ s.0.1)))) =
    (two_takes t h.0 h.1).0 ∙ ap (λ (z : List ℕ). two h.0.0 ++ z) (next_takes colon h.0.1 m.0 m.1 ∙ ap (λ (z : List ℕ). colon ∷ (two m.0.0 ++ z)) (next_takes colon m.0.1 s.0 s.1)) in
    subst (λ (q : ReadThree). t ≡ two q.0.0 ++ (colon ∷ (two q.0.1 ++ (colon ∷ (two q.0.2 ++ q.1))))) (given_is made p s.2) text

abbrev local_of : ℕ × ℕ × ℕ → ℕ × ℕ × ℕ → LocalTime
local_of d c = record { year = d.0; month = d.1; day = d.2; hour = c.0; minute = c.1; second = c.2 }

local_from : (t : List ℕ) (d c : ReadThree) (k : List ℕ) (m : Mark d.1 k) → t ≡ four d.0.0 ++ (hyphen_minus ∷ (two d.0.1 ++ (hyphen_minus ∷ (two d.0.2 ++ d.1)))) → k ≡ two c.0.0 ++ (colon ∷ (two c.0.1 ++ (colon ∷ (two c.0.2 ++ c.1)))) → LocalFront t (local_of d.0 c.0) c.1
unfolding spelled
local_from t d c k m a b = (m.mark, a ∙ ap (λ (z : List ℕ). four d.0.0 ++ (hyphen_minus ∷ (two d.0.1 ++ (hyphen_minus ∷ (two d.0.2 ++ z))))) (m.is ∙ ap (λ (z : List ℕ). m.mark ∷ z) b), m.is_mark)

local_takes : (t : List ℕ) (p : ReadLocal) → local_at t ≡ given p → LocalFront t p.0 p.1
unfolding local_at
local_takes t p e =
    let d = bind_some (day_at t) (λ d. either_at capital_t small_t d.1 >>= λ r. clock_at r >>= λ c. Some (local_of d.0 c.0, c.1)) p e in
    let r = bind_some (either_at capital_t small_t d.0.1) (λ r. clock_at r >>= λ c. Some (local_of d.0.0 c.0, c.1)) p d.2 in
    let c = bind_some (clock_at r.0) (λ c. Some (local_of d.0.0 c.0, c.1)) p r.2 in
    let made : ReadLocal = (local_of d.0.0 c.0.0, c.0.1) in
    subst (λ (q : ReadLocal). LocalFront t q.0 q.1) (given_is made p c.2) (local_from t d.0 c.0 r.0 (mark_is d.0.1 r.0 r.1) (day_takes t d.0 d.1) (clock_takes r.0 c.0 c.1))

-- ---- fractions

record Digits (weight : ℕ) (t : List ℕ) (r : ReadNumber) : Type 0 where
  digits : List ℕ
  is : t ≡ digits ++ r.1
  all : AllDigits digits
  lasts : Lasts weight digits
  value : r.0 ≡ fraction_value weight digits

digit_from : (x d : ℕ) → digit x ≡ given d → (is_ascii_digit x ≡ true) × (d ≡ x - digit_zero)
digit_from x d e = let t = tested (nat_le digit_zero x && nat_le x digit_nine) (x - digit_zero) d e in (t.0, sym t.1)

no_digits : (weight : ℕ) (t : List ℕ) (r : ReadNumber) → Some (0, t) ≡ given r → Digits weight t r
unfolding fraction_value
no_digits weight t r e = let made : ReadNumber = (0, t) in subst (Digits weight t) (given_is made r e) (record { digits = []; is = refl; all = tt; lasts = tt; value = refl })

one_digit : (weight x : ℕ) (t : List ℕ) (o : Option ℕ) (more : Option ReadNumber) (r : ReadNumber) → digit x ≡ o → ((s : ReadNumber) → more ≡ given s → Digits (weight / 10) t s) → by_digit o weight (x ∷ t) more ≡ given r → Digits weight (x ∷ t) r
unfolding fraction_value
one_digit weight x t None more r d later e = no_digits weight (x ∷ t) r e
one_digit weight x t (Some n) more r d later e =
    elim (chosen (weight == 0) nothing (add_front (n * weight) more) (given r) e) [
      | inl w ↦ absurd (none_is r w.1)
      | inr w ↦
          let p = bind_some more (λ r. Some (n * weight + r.0, r.1)) r w.1 in
          let l = later p.0 p.1 in
          let f = digit_from x n d in
          let made : ReadNumber = (n * weight + p.0.0, p.0.1) in
          subst (Digits weight (x ∷ t)) (given_is made r p.2) (record {
            digits = x ∷ l.digits;
            is = ap (λ (y : List ℕ). x ∷ y) l.is;
            all = (f.0, l.all);
            lasts = (eqb-false weight 0 w.0, l.lasts);
            value = ap (λ (y : ℕ). n * weight + y) l.value ∙ ap (λ (y : ℕ). y * weight + fraction_value (weight / 10) l.digits) f.1;
          })
    ]

digits_take : (weight : ℕ) (t : List ℕ) (r : ReadNumber) → nanos_from weight t ≡ given r → Digits weight t r
unfolding nanos_from
digits_take weight [] r e = no_digits weight [] r e
digits_take weight (x ∷ t) r e = one_digit weight x t (digit x) (nanos_from (weight / 10) t) r refl (λ s h. digits_take (weight / 10) t s h) e

at_most_nine : (ds : List ℕ) → Lasts first_weight ds → length ds ≤ 9
at_most_nine [] h = omega arith
at_most_nine (a ∷ []) h = omega arith
at_most_nine (a ∷ b ∷ []) h = omega arith
at_most_nine (a ∷ b ∷ c ∷ []) h = omega arith
at_most_nine (a ∷ b ∷ c ∷ d ∷ []) h = omega arith
at_most_nine (a ∷ b ∷ c ∷ d ∷ f ∷ []) h = omega arith
at_most_nine (a ∷ b ∷ c ∷ d ∷ f ∷ g ∷ []) h = omega arith
at_most_nine (a ∷ b ∷ c ∷ d ∷ f ∷ g ∷ i ∷ []) h = omega arith
at_most_nine (a ∷ b ∷ c ∷ d ∷ f ∷ g ∷ i ∷ j ∷ []) h = omega arith
at_most_nine (a ∷ b ∷ c ∷ d ∷ f ∷ g ∷ i ∷ j ∷ k ∷ []) h = omega arith
at_most_nine (a ∷ b ∷ c ∷ d ∷ f ∷ g ∷ i ∷ j ∷ k ∷ l ∷ ds) h = absurd (h.1.1.1.1.1.1.1.1.1.0 refl)

abbrev FractionFront : List ℕ → ℕ → List ℕ → Type 0
FractionFront t nanos rest = (fraction : List ℕ) × (t ≡ fraction ++ rest) × IsSecondFraction fraction nanos

first_value : (x : ℕ) (ds : List ℕ) → fraction_value first_weight (x ∷ ds) ≡ (x - digit_zero) * first_weight + fraction_value (first_weight / 10) ds
unfolding fraction_value
first_value x ds = refl

-- digits of which the first was seen have a value, and so are not none
nanos_take : (t : List ℕ) (r : ReadNumber) → nanos_at t ≡ given r → FractionFront (full_stop ∷ t) r.0 r.1
unfolding nanos_at nanos_from
nanos_take [] r e = absurd (none_is r e)
nanos_take (x ∷ t) r e =
    let d = bind_some (digit x) (λ d. by_digit (digit x) first_weight (x ∷ t) (nanos_from (first_weight / 10) t)) r e in
    let f = digit_from x d.0 d.1 in
    let seen : by_digit (Some d.0) first_weight (x ∷ t) (nanos_from (first_weight / 10) t) ≡ given r = ap (λ (o : Option ℕ). by_digit o first_weight (x ∷ t) (nanos_from (first_weight / 10) t)) (sym d.1) ∙ d.2 in
    let p = bind_some (nanos_from (first_weight / 10) t) (λ r. Some (d.0 * first_weight + r.0, r.1)) r seen in
    let l = digits_take (first_weight / 10) t p.0 p.1 in
    let made : ReadNumber = (d.0 * first_weight + p.0.0, p.0.1) in
    let ds : List ℕ = x ∷ l.digits in
    let lasts : Lasts first_weight ds = ((λ z. omega arith), l.lasts) in
    let value : d.0 * first_weight + p.0.0 ≡ fraction_value first_weight ds = sym (first_value x l.digits ∙ ap (λ (y : ℕ). y * first_weight + fraction_value (first_weight / 10) l.digits) (sym f.1) ∙ ap (λ (y : ℕ). d.0 * first_weight + y) (sym l.value)) in
    subst (λ (q : ReadNumber). FractionFront (full_stop ∷ x ∷ t) q.0 q.1) (given_is made r p.2)
    (full_stop ∷ ds, ap (λ (y : List ℕ). full_stop ∷ x ∷ y) l.is, (refl, (f.0, l.all), at_most_nine ds lasts, value))

fraction_takes : (t : List ℕ) (r : ReadNumber) → second_fraction_at t ≡ given r → FractionFront t r.0 r.1
unfolding second_fraction_at
fraction_takes [] r e = let made : ReadNumber = (0, []) in subst (λ (q : ReadNumber). FractionFront [] q.0 q.1) (given_is made r e) ([], refl, refl)
fraction_takes (x ∷ t) r e =
    elim (chosen (x == full_stop) (nanos_at t) (Some (0, x ∷ t)) (given r) e) [
      | inl w ↦ subst (λ (y : ℕ). FractionFront (y ∷ t) r.0 r.1) (sym (eqb-true x full_stop w.0)) (nanos_take t r w.1)
      | inr w ↦ (let made : ReadNumber = (0, x ∷ t) in subst (λ (q : ReadNumber). FractionFront (x ∷ t) q.0 q.1) (given_is made r w.1) ([], refl, refl))
    ]

-- ---- zones

last_takes : {A : Type 0} (x : A) (r : List ℕ) (y : A) → if_last x r ≡ given y → (r ≡ []) × (x ≡ y)
last_takes x [] y e = (refl, given_is x y e)
last_takes x (c ∷ r) y e = absurd (none_is y e)

record Offset (t : List ℕ) (n : ℕ) : Type 0 where
  hour : ℕ
  minute : ℕ
  is : t ≡ two hour ++ colon ∷ two minute
  is_hour : hour < 24
  is_minute : minute < 60
  value : n ≡ hour * 3600 + minute * 60

nil_right : (t : List ℕ) → t ++ [] ≡ t
nil_right [] = refl
nil_right (x ∷ t) = ap (λ (y : List ℕ). x ∷ y) (nil_right t)

offset_takes : (t : List ℕ) (n : ℕ) → offset_at t ≡ given n → Offset t n
unfolding offset_at
offset_takes t n e =
    let h = bind_some (two_at t) (λ h. next_at colon h.1 >>= λ m. if_last m.0 m.1 >>= λ n. cond (nat_lt h.0 24 && nat_lt n 60) (given (h.0 * 3600 + n * 60)) nothing) n e in
    let m = bind_some (next_at colon h.0.1) (λ m. if_last m.0 m.1 >>= λ n. cond (nat_lt h.0.0 24 && nat_lt n 60) (given (h.0.0 * 3600 + n * 60)) nothing) n h.2 in
    let l = bind_some (if_last m.0.0 m.0.1) (λ n. cond (nat_lt h.0.0 24 && nat_lt n 60) (given (h.0.0 * 3600 + n * 60)) nothing) n m.2 in
    let w = tested (nat_lt h.0.0 24 && nat_lt l.0 60) (h.0.0 * 3600 + l.0 * 60) n l.2 in
    let b = and_parts _ _ w.0 in
    let last = last_takes m.0.0 m.0.1 l.0 l.1 in
    let tail : h.0.1 ≡ colon ∷ two l.0 = next_takes colon h.0.1 m.0 m.1 ∙ ap (λ (y : List ℕ). colon ∷ (two m.0.0 ++ y)) last.0 ∙ ap (λ (y : List ℕ). colon ∷ y) (nil_right (two m.0.0)) ∙ ap (λ (y : ℕ). colon ∷ two y) last.1 in
    record { hour = h.0.0; minute = l.0; is = (two_takes t h.0 h.1).0 ∙ ap (λ (y : List ℕ). two h.0.0 ++ y) tail; is_hour = ltb-true _ _ b.0; is_minute = ltb-true _ _ b.1; value = sym w.1 }

plus_takes : (x : ℕ) (t : List ℕ) (z : ℤ) → x ≡ plus_sign → (offset_at t >>= λ n. Some (pos n)) ≡ given z → IsNumericOffset (x ∷ t) z
plus_takes x t z s e =
    let p = bind_some (offset_at t) (λ n. Some (pos n)) z e in
    let o = offset_takes t p.0 p.1 in
    record { sign = x; hour = o.hour; minute = o.minute; is = ap (λ (y : List ℕ). x ∷ y) o.is; is_hour = o.is_hour; is_minute = o.is_minute; is_offset = inl (s, sym (given_is (pos p.0) z p.2) ∙ ap pos o.value) }

minus_takes : (x : ℕ) (t : List ℕ) (z : ℤ) → x ≡ hyphen_minus → (offset_at t >>= λ n. Some (neg_ℤ (pos n))) ≡ given z → IsNumericOffset (x ∷ t) z
minus_takes x t z s e =
    let p = bind_some (offset_at t) (λ n. Some (neg_ℤ (pos n))) z e in
    let o = offset_takes t p.0 p.1 in
    record { sign = x; hour = o.hour; minute = o.minute; is = ap (λ (y : List ℕ). x ∷ y) o.is; is_hour = o.is_hour; is_minute = o.is_minute; is_offset = inr (s, sym (given_is (neg_ℤ (pos p.0)) z p.2) ∙ ap (λ (n : ℕ). neg_ℤ (pos n)) o.value) }

zulu_takes : (x : ℕ) (t : List ℕ) (z : ℤ) → ((x == capital_z) || (x == small_z)) ≡ true → if_last (pos 0) t ≡ given z → IsZulu (x ∷ t) z
zulu_takes x t z k e =
    let l = last_takes (pos 0) t z e in (
      elim (or_cases _ _ k) [
        | inl a ↦ inl (ap (λ (y : ℕ). y ∷ t) (eqb-true x capital_z a) ∙ ap (λ (y : List ℕ). capital_z ∷ y) l.0)
        | inr a ↦ inr (ap (λ (y : ℕ). y ∷ t) (eqb-true x small_z a) ∙ ap (λ (y : List ℕ). small_z ∷ y) l.0)
      ],
      sym l.1,
    )

zulu_zone : (offsets : Bool) (zone : List ℕ) (z : ℤ) → IsZulu zone z → Zones offsets zone z
zulu_zone true zone z h = inl h
zulu_zone false zone z h = h

numeric_zone : (offsets : Bool) (zone : List ℕ) (z : ℤ) → offsets ≡ true → IsNumericOffset zone z → Zones offsets zone z
numeric_zone true zone z o h = inr h
numeric_zone false zone z o h = absurd cc

zone_takes : (offsets : Bool) (t : List ℕ) (z : ℤ) → zone_of offsets t ≡ given z → Zones offsets t z
unfolding zone_of
zone_takes offsets [] z e = absurd (none_is z e)
zone_takes offsets (x ∷ t) z e =
    elim (chosen ((x == capital_z) || (x == small_z)) (if_last (pos 0) t) (cond (offsets && x == plus_sign) (offset_at t >>= λ n. Some (pos n)) (cond (offsets && x == hyphen_minus) (offset_at t >>= λ n. Some (neg_ℤ (pos n))) nothing)) (given z) e) [
      | inl w ↦ zulu_zone offsets (x ∷ t) z (zulu_takes x t z w.0 w.1)
      | inr w ↦ (elim (chosen (offsets && x == plus_sign) (offset_at t >>= λ n. Some (pos n)) (cond (offsets && x == hyphen_minus) (offset_at t >>= λ n. Some (neg_ℤ (pos n))) nothing) (given z) w.1) [
        | inl v ↦ (let b = and_parts offsets (x == plus_sign) v.0 in numeric_zone offsets (x ∷ t) z b.0 (plus_takes x t z (eqb-true x plus_sign b.1) v.1))
        | inr v ↦ (elim (chosen (offsets && x == hyphen_minus) (offset_at t >>= λ n. Some (neg_ℤ (pos n))) nothing (given z) v.1) [
          | inl u ↦ (let b = and_parts offsets (x == hyphen_minus) u.0 in numeric_zone offsets (x ∷ t) z b.0 (minus_takes x t z (eqb-true x hyphen_minus b.1) u.1))
          | inr u ↦ absurd (none_is z u.1)
        ])
      ])
    ]

-- ---- the moment

civil_takes : (y m d : ℕ) → is_civil y m d ≡ true → IsCommonDate y m d
civil_takes y m d e =
    let a = and_parts _ _ e in let b = and_parts _ _ a.1 in let c = and_parts _ _ b.1 in let f = and_parts _ _ c.1 in let g = and_parts _ _ f.1 in
    record { year_from = leb-true _ _ a.0; year_to = leb-true _ _ b.0; month_from = leb-true _ _ c.0; month_to = leb-true _ _ f.0; day_from = leb-true _ _ g.0; day_to = leb-true _ _ g.1 }

exists_takes : (l : LocalTime) → (is_civil l.year l.month l.day && is_clock l.hour l.minute l.second) ≡ true → Exists l
exists_takes l e =
    let b = and_parts _ _ e in
    let k = and_parts _ _ b.1 in
    let s = and_parts _ _ k.1 in
    record { date = civil_takes _ _ _ b.0; hour = ltb-true _ _ k.0; minute = ltb-true _ _ s.0; second = ltb-true _ _ s.1 }

abbrev made_of : ℤ → ℕ → Moment
made_of s n = record { seconds = s; nanos = n }

abbrev ending : LocalTime → ℕ → ℤ → Option Moment
ending l n z = cond (is_civil l.year l.month l.day && is_clock l.hour l.minute l.second) (given (made_of (seconds_of l -ℤ z) n)) nothing

pub moment_take : (offsets : Bool) (t : List ℕ) (m : Moment) → moment_at offsets t ≡ given m → IsTimeText (Zones offsets) t m
unfolding moment_at
moment_take offsets t m e =
    let l = bind_some (local_at t) (λ l. second_fraction_at l.1 >>= λ n. zone_of offsets n.1 >>= λ z. ending l.0 n.0 z) m e in
    let n = bind_some (second_fraction_at l.0.1) (λ n. zone_of offsets n.1 >>= λ z. ending l.0.0 n.0 z) m l.2 in
    let z = bind_some (zone_of offsets n.0.1) (λ z. ending l.0.0 n.0.0 z) m n.2 in
    let w = tested (is_civil l.0.0.year l.0.0.month l.0.0.day && is_clock l.0.0.hour l.0.0.minute l.0.0.second) (made_of (seconds_of l.0.0 -ℤ z.0) n.0.0) m z.2 in
    let a = local_takes t l.0 l.1 in
    let f = fraction_takes l.0.1 n.0 n.1 in
    subst (IsTimeText (Zones offsets) t) w.1 (record {
      local = l.0.0;
      mark = a.0;
      fraction = f.0;
      zone = n.0.1;
      offset = z.0;
      is = a.1 ∙ ap (spelled l.0.0 a.0) f.1;
      exists = exists_takes l.0.0 w.0;
      is_mark = a.2;
      is_fraction = f.2;
      is_zone = zone_takes offsets n.0.1 z.0 z.1;
      is_seconds = refl;
    })

-- the steps of the reader
pub moment_reads : (offsets : Bool) (t : List ℕ) (l : LocalTime) (r : List ℕ) (n : ℕ) (s : List ℕ) (z : ℤ) (seconds : ℤ) (made : Option Moment) → Some (l, r) ≡ local_at t → Some (n, s) ≡ second_fraction_at r → Some z ≡ zone_of offsets s
    → is_civil l.year l.month l.day ≡ true → is_clock l.hour l.minute l.second ≡ true → seconds ≡ seconds_of l -ℤ z → made ≡ Some (made_of seconds n) → made ≡ moment_at offsets t
unfolding moment_at
moment_reads offsets t l r n s z seconds made a b c d e f is = is ∙ ap (λ (y : ℤ). Some (made_of y n)) f ∙ sym (rw (sym a, sym b, sym c, d, e) refl)

-- ---- the text is ASCII

record Ascii (t : List ℕ) : Type 0 where
  is : IsAscii t

none : Ascii []
none = record { is = nil_ascii }

one_more : (x : ℕ) (t : List ℕ) → x < 128 → Ascii t → Ascii (x ∷ t)
one_more x t lt h = record { is = cons_ascii x t lt h.is }

then : (s t : List ℕ) → IsAscii s → Ascii t → Ascii (s ++ t)
then s t a h = record { is = IsAscii-append s t a h.is }

two_more : (n : ℕ) (t : List ℕ) → n < 100 → Ascii t → Ascii (two n ++ t)
two_more n t lt h = one_more (digit_zero + n / 10) _ (omega arith) (one_more (digit_zero + n % 10) t (omega arith) h)

spelled_ascii : (l : LocalTime) (mark : ℕ) (t : List ℕ) → Exists l → mark < 128 → Ascii t → Ascii (spelled l mark t)
unfolding spelled
spelled_ascii l mark t h m a =
    let y : l.year ≤ 9999 = h.date.year_to in
    let f : l.year / 100 < 100 = omega arith in
    let g : l.year % 100 < 100 = omega arith in
    two_more (l.year / 100) _ f (two_more (l.year % 100) _ g (one_more hyphen_minus _ (omega arith) (two_more l.month _ (omega (arith, h.date.month_to)) (one_more hyphen_minus _ (omega arith)
    (two_more l.day _ (omega (arith, h.date.day_to, days_in_month_bounds (pos l.year) l.month)) (one_more mark _ m (two_more l.hour _ (omega (arith, h.hour)) (one_more colon _ (omega arith) (two_more l.minute _ (omega (arith, h.minute))
    (one_more colon _ (omega arith) (two_more l.second t (omega (arith, h.second)) a)))))))))))

mark_small : (mark : ℕ) → (mark ≡ capital_t) ⊎ (mark ≡ small_t) → mark < 128
mark_small mark h = elim h [ inl a ↦ omega (arith, a) | inr a ↦ omega (arith, a) ]

fraction_ascii : (fraction : List ℕ) (nanos : ℕ) → IsSecondFraction fraction nanos → IsAscii fraction
fraction_ascii [] nanos h = nil_ascii
fraction_ascii (x ∷ ds) nanos h = cons_ascii x ds (omega (arith, h.0)) (some_ascii ds h.1)

zulu_ascii : (zone : List ℕ) (z : ℤ) → IsZulu zone z → Ascii zone
zulu_ascii zone z h = elim h.0 [ inl a ↦ subst Ascii (sym a) (one_more capital_z [] (omega arith) none) | inr a ↦ subst Ascii (sym a) (one_more small_z [] (omega arith) none) ]

sign_small : (sign : ℕ) (A B : Type 0) → ((sign ≡ plus_sign) × A) ⊎ ((sign ≡ hyphen_minus) × B) → sign < 128
sign_small sign A B h = elim h [ inl a ↦ omega (arith, a.0) | inr a ↦ omega (arith, a.0) ]

numeric_ascii : (zone : List ℕ) (z : ℤ) → IsNumericOffset zone z → Ascii zone
numeric_ascii zone z h =
    subst Ascii (sym h.is) (one_more h.sign _ (sign_small h.sign _ _ h.is_offset) (two_more h.hour _ (omega (arith, h.is_hour)) (one_more colon _ (omega arith)
    (subst Ascii (nil_right (two h.minute)) (two_more h.minute [] (omega (arith, h.is_minute)) none)))))

zone_ascii : (offsets : Bool) (zone : List ℕ) (z : ℤ) → Zones offsets zone z → Ascii zone
zone_ascii false zone z h = zulu_ascii zone z h
zone_ascii true zone z h = elim h [ inl a ↦ zulu_ascii zone z a | inr a ↦ numeric_ascii zone z a ]

pub time_ascii : (offsets : Bool) (t : List ℕ) (m : Moment) → IsTimeText (Zones offsets) t m → IsAscii t
time_ascii offsets t m h =
    (subst Ascii (sym h.is) (spelled_ascii h.local h.mark (h.fraction ++ h.zone) h.exists (mark_small h.mark h.is_mark) (then h.fraction h.zone (fraction_ascii h.fraction m.nanos h.is_fraction) (zone_ascii offsets h.zone h.offset h.is_zone)))).is

-- ---- of the characters of a text

pub found_is : (offsets : Bool) (bytes : List ℕ) (o : Option Moment) → o ≡ moment_at offsets bytes → IfSome o (IsTimeText (Zones offsets) (characters bytes))
found_is offsets bytes (Some m) e =
    let h = moment_take offsets bytes m (sym e) in
    subst (λ (t : List ℕ). IsTimeText (Zones offsets) t m) (sym (characters-chars bytes ∙ chars-IsAscii bytes (time_ascii offsets bytes m h))) h
found_is offsets bytes None e = tt

pub only_is : (offsets : Bool) (bytes : List ℕ) (m : Moment) → IsUtf8 bytes → IsTimeText (Zones offsets) (characters bytes) m → moment_at offsets bytes ≡ Some m
only_is offsets bytes m u h =
    let same : bytes ≡ characters bytes = sym (encodes-chars bytes u) ∙ encodes-IsAscii (characters bytes) (time_ascii offsets (characters bytes) m h) in
    ap (moment_at offsets) same ∙ moment_again offsets (characters bytes) m h

pub one_moment : (t : List ℕ) (m n : Moment) → IsTimeText (Zones true) t m → IsTimeText (Zones true) t n → m ≡ n
one_moment t m n h k = given_is m n (sym (moment_again true t m h) ∙ moment_again true t n k)

-- a text of scalars reads as the moment that it stands for
pub reads_as : (offsets : Bool) (text : List ℕ) (m : Moment) → all_scalars text ≡ true → (moment_at offsets (encode_utf8_all text) ≡ Some m) ↔ IsTimeText (Zones offsets) text m
reads_as offsets text m ok = (
  λ e. subst (λ (t : List ℕ). IsTimeText (Zones offsets) t m) (characters-encodes text ok) (found_is offsets (encode_utf8_all text) (Some m) (sym e)),
  λ h. ap (moment_at offsets) (encodes-IsAscii text (time_ascii offsets text m h)) ∙ moment_again offsets text m h,
)
