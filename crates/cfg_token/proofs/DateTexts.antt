-- A moment's date has one text.
use Rattle.std.proofs.Common.{◌≡◌, ℕ, zero, suc, ◌+◌, ◌-◌, ◌*◌, ◌/◌, ◌%◌, ◌<◌, ◌≤◌, ◌⊎◌, inl, inr, List, [], ◌∷◌, ◌++◌, length, Bool, true, false, cond, Some, None, refl, sym, ap, subst, ◌∙◌, arith}
use Rattle.std.specs.Prelude.{◌||◌, ℤ, pos, negsuc, ◌+ℤ◌, ◌*ℤ◌, nat_le, int_lt, unsigned_abs}
use Rattle.std.specs.Char.{is_ascii_digit}
use Rattle.std.proofs.lemmas.Bool.{cases_eq}
use Rattle.std.proofs.lemmas.Bool.Decides.{nat_tests}
use Rattle.std.proofs.lemmas.Int.{ints}
use Rattle.std.proofs.Math.Nat.{mul-le-mul_right}
use Rattle.jiff_core.specs.Calendar.{days_from_civil, day_count, IsCivilDate}
use Rattle.jiff_core.proofs.CalendarLemmas.{days_in_month_bounds, day_count-lt_year, day_count-lt_month, day_count-day, days_from_civil-day_count}
use Rattle.jiff_core.proofs.SignedLemmas.{signed_arith}
use Rattle.cfg_base.specs.Moment.{Moment}
use Rattle.cfg_json.specs.Ascii.{digit_zero, capital_t, capital_z}
use Rattle.cfg_json.specs.Numbers.{AllDigits, AreDigits}
use Rattle.cfg_json.specs.declared.dates.local.LocalTime.{LocalTime}
use Rattle.cfg_json.specs.Dates.{IsCommonDate, Exists, spelled, seconds_of, fraction_value, IsSecondFraction, IsShortFraction, IsOutside, IsWrittenDate}
use Rattle.cfg_json.specs.WritingDates.{date_text}
use Rattle.cfg_json.proofs.DatesWritten.{written_is, inside}
use Rattle.cfg_token.specs.DateTexts.{year_at, month_at, local_on, count_of, local_in, is_outside, date_of}

-- ---- the calendar

civil : (y m d : ℕ) → IsCommonDate y m d → IsCivilDate (pos y) m d
civil y m d h = ((omega (arith, signed_arith, h.year_from), omega (arith, signed_arith, h.year_to)), (h.month_from, h.month_to), (h.day_from, h.day_to))

-- the last number whose test holds
year_is : (y day fuel : ℕ) → day_count (pos y) 1 1 ≤ day → ((later : ℕ) → y < later → day < day_count (pos later) 1 1) → y ≤ fuel → year_at fuel day ≡ y
unfolding year_at
year_is y day zero low high le = omega (arith, le)
year_is y day (suc n) low high le = by_test (λ k. year_is y day n low high k) (nat_le (day_count (pos (suc n)) 1 1) day) refl
  where
    by_test : (y ≤ n → year_at n day ≡ y) → (b : Bool) → nat_le (day_count (pos (suc n)) 1 1) day ≡ b → cond b (suc n) (year_at n day) ≡ y
    by_test again true e = elim (cases_eq y (suc n)) [
      | inl same ↦ sym same
      | inr other ↦ absurd (grind (arith, nat_tests, e, high (suc n) (omega (arith, le, other))))
    ]
    by_test again false e = elim (cases_eq y (suc n)) [
      | inl same ↦ absurd (grind (arith, nat_tests, e, subst (λ (x : ℕ). day_count (pos x) 1 1 ≤ day) same low))
      | inr other ↦ again (omega (arith, le, other))
    ]

month_is : (y m day fuel : ℕ) → day_count (pos y) m 1 ≤ day → ((later : ℕ) → m < later → day < day_count (pos y) later 1) → m ≤ fuel → month_at y fuel day ≡ m
unfolding month_at
month_is y m day zero low high le = omega (arith, le)
month_is y m day (suc n) low high le = by_test (λ k. month_is y m day n low high k) (nat_le (day_count (pos y) (suc n) 1) day) refl
  where
    by_test : (m ≤ n → month_at y n day ≡ m) → (b : Bool) → nat_le (day_count (pos y) (suc n) 1) day ≡ b → cond b (suc n) (month_at y n day) ≡ m
    by_test again true e = elim (cases_eq m (suc n)) [
      | inl same ↦ sym same
      | inr other ↦ absurd (grind (arith, nat_tests, e, high (suc n) (omega (arith, le, other))))
    ]
    by_test again false e = elim (cases_eq m (suc n)) [
      | inl same ↦ absurd (grind (arith, nat_tests, e, subst (λ (x : ℕ). day_count (pos y) x 1 ≤ day) same low))
      | inr other ↦ again (omega (arith, le, other))
    ]

first_of_year : (y m d : ℕ) → IsCommonDate y m d → day_count (pos y) 1 1 ≤ day_count (pos y) m d
first_of_year y m d h = elim (cases_eq m 1) [
  | inl e ↦ subst (λ (k : ℕ). day_count (pos y) 1 1 ≤ day_count (pos y) k d) (sym e) (omega (arith, h.day_from, day_count-day (pos y) 1 1 d (omega arith) h.day_from))
  | inr n ↦ (let less = day_count-lt_month (pos y) 1 1 m d (first y h) h.day_from (omega (arith, h.month_from, n)) in omega (arith, less))
]
  where
    first : (y : ℕ) → IsCommonDate y m d → IsCivilDate (pos y) 1 1
    first y h = ((omega (arith, signed_arith, h.year_from), omega (arith, signed_arith, h.year_to)), (omega arith, omega arith), (omega arith, omega (arith, days_in_month_bounds (pos y) 1)))

year_found : (y m d : ℕ) → IsCommonDate y m d → year_at 9999 (day_count (pos y) m d) ≡ y
year_found y m d h = year_is y (day_count (pos y) m d) 9999 (first_of_year y m d h) (λ later lt. day_count-lt_year (pos y) m d (pos later) 1 1 (civil y m d h) (omega arith) (omega (arith, signed_arith, lt))) h.year_to

month_found : (y m d : ℕ) → IsCommonDate y m d → month_at y 12 (day_count (pos y) m d) ≡ m
month_found y m d h =
    month_is y m (day_count (pos y) m d) 12 (omega (arith, h.day_from, day_count-day (pos y) m d 1 h.day_from (omega arith)))
    (λ later lt. day_count-lt_month (pos y) m d later 1 (civil y m d h) (omega arith) lt) h.month_to

abbrev seconds_in : LocalTime → ℕ
seconds_in l = l.hour * 3600 + l.minute * 60 + l.second

count_is : (l : LocalTime) → count_of (seconds_of l) ≡ day_count (pos l.year) l.month l.day * 86400 + seconds_in l
unfolding seconds_of
count_is l =
    let day = days_from_civil-day_count (pos l.year) l.month l.day in
    let is : days_from_civil (pos l.year) l.month l.day *ℤ pos 86400 +ℤ pos (seconds_in l) +ℤ pos 377736739200 ≡ pos (day_count (pos l.year) l.month l.day * 86400 + seconds_in l) = omega (arith, signed_arith, day) in
    ap unsigned_abs is

parts_are : (l : LocalTime) (day time y m : ℕ) → Exists l → day ≡ day_count (pos l.year) l.month l.day → time ≡ seconds_in l → y ≡ l.year → m ≡ l.month → local_on y m day time ≡ l
parts_are l day time y m h is t e f =
    let d : day - day_count (pos l.year) l.month 1 + 1 ≡ l.day = omega (arith, is, h.date.day_from, day_count-day (pos l.year) l.month l.day 1 h.date.day_from (omega arith)) in
    let hour : time / 3600 ≡ l.hour = omega (arith, t, h.minute, h.second) in
    let minute : time / 60 % 60 ≡ l.minute = omega (arith, t, h.minute, h.second) in
    let second : time % 60 ≡ l.second = omega (arith, t, h.second) in
    rw (e, f) (rw (d, hour, minute, second) refl)

pub local_is : (l : LocalTime) (z : ℤ) → Exists l → z ≡ seconds_of l → local_in z ≡ l
unfolding local_in
local_is l z h is =
    let n : count_of z ≡ day_count (pos l.year) l.month l.day * 86400 + seconds_in l = ap count_of is ∙ count_is l in
    let day : count_of z / 86400 ≡ day_count (pos l.year) l.month l.day = omega (arith, n, h.hour, h.minute, h.second) in
    let time : count_of z % 86400 ≡ seconds_in l = omega (arith, n, h.hour, h.minute, h.second) in
    let year : year_at 9999 (count_of z / 86400) ≡ l.year = ap (year_at 9999) day ∙ year_found l.year l.month l.day h.date in
    let month : month_at (year_at 9999 (count_of z / 86400)) 12 (count_of z / 86400) ≡ l.month = ap (λ (y : ℕ). month_at y 12 (count_of z / 86400)) year ∙ ap (month_at l.year 12) day ∙ month_found l.year l.month l.day h.date in
    parts_are l (count_of z / 86400) (count_of z % 86400) _ _ h day time year month

-- ---- digits behind the point

abbrev tens : ℕ → ℕ
tens zero = 1
tens (suc n) = 10 * tens n

tens_some : (n : ℕ) → 1 ≤ tens n
tens_some zero = omega arith
tens_some (suc n) = omega (arith, tens_some n)

tens_less : (n : ℕ) → tens (suc n) / 10 ≡ tens n
tens_less n = omega arith

digit_low : (x : ℕ) → is_ascii_digit x ≡ true → (48 ≤ x) × (x - digit_zero ≤ 9)
digit_low x h = grind (arith, nat_tests, h)

no_room : (t : List ℕ) → length t + 1 ≤ 1 → t ≡ []
no_room [] h = refl
no_room (x ∷ t) h = absurd (omega (arith, h))

below : (n : ℕ) (ds : List ℕ) → AllDigits ds → length ds ≤ suc n → fraction_value (tens n) ds < tens (suc n)
unfolding fraction_value
below n [] h le = omega (arith, tens_some n)
below zero (x ∷ []) h le = omega (arith, (digit_low x h.0).1)
below zero (x ∷ y ∷ t) h le = absurd (omega (arith, le))
below (suc n) (x ∷ t) h le =
    let r : fraction_value (tens (suc n) / 10) t < tens (suc n) = subst (λ (w : ℕ). fraction_value w t < tens (suc n)) (sym (tens_less n)) (below n t h.1 (omega (arith, le))) in
    let top = mul-le-mul_right (tens (suc n)) (digit_low x h.0).1 in
    omega (arith, r, top)

abbrev NoZeroEnd : List ℕ → Type 0
NoZeroEnd ds = (front : List ℕ) → ds ≡ front ++ digit_zero ∷ [] → ⊥

no_zero_behind : (x : ℕ) (t : List ℕ) → NoZeroEnd (x ∷ t) → NoZeroEnd t
no_zero_behind x t h front e = h (x ∷ front) (ap (λ (s : List ℕ). x ∷ s) e)

at_most_or_less : (m n : ℕ) → (m ≤ n) ⊎ (n < m)
at_most_or_less m n = by_test (nat_le m n) refl
  where
    by_test : (b : Bool) → nat_le m n ≡ b → (m ≤ n) ⊎ (n < m)
    by_test true e = inl (grind (arith, nat_tests, e))
    by_test false e = inr (grind (arith, nat_tests, e))

-- two sums of a multiple and a smaller number
quotient_same : (a b T r s : ℕ) → a * T + r ≡ b * T + s → r < T → s < T → a ≡ b
quotient_same a b T r s e p q = elim (cases_eq a b) [
  | inl same ↦ same
  | inr other ↦ absurd (apart other)
]
  where
    less : (a b T r s : ℕ) → a + 1 ≤ b → a * T + r ≡ b * T + s → r < T → ⊥
    less a b T r s lt e p =
        let top : (a + 1) * T ≤ b * T = mul-le-mul_right T lt in
        let split : (a + 1) * T ≡ a * T + T = omega arith in
        absurd (omega (arith, e, p, top, split))

    apart : (a ≡ b → ⊥) → ⊥
    apart other = elim (at_most_or_less (a + 1) b) [
      | inl lt ↦ less a b T r s lt e p
      | inr gt ↦ less b a T s r (omega (arith, gt, other)) (sym e) q
    ]

rest_below : (n : ℕ) (t : List ℕ) → AllDigits t → length t ≤ n → fraction_value (tens n / 10) t < tens n
unfolding fraction_value
rest_below zero [] h le = omega arith
rest_below zero (x ∷ t) h le = absurd (omega (arith, le))
rest_below (suc n) t h le = subst (λ (w : ℕ). fraction_value w t < tens (suc n)) (sym (tens_less n)) (below n t h le)

-- digits that count nothing, and do not end with a zero, are none
nothing_counts : (n : ℕ) (ds : List ℕ) → AllDigits ds → length ds ≤ suc n → NoZeroEnd ds → fraction_value (tens n) ds ≡ 0 → ds ≡ []
unfolding fraction_value
nothing_counts n [] h le z e = refl
nothing_counts n (x ∷ []) h le z e = absurd (elim (cases_eq (x - digit_zero) 0) [
  | inl none ↦ z [] (ap (λ (y : ℕ). y ∷ []) (let is : x ≡ digit_zero = omega (arith, none, (digit_low x h.0).0) in is))
  | inr some ↦ (let one : 1 ≤ x - digit_zero = omega (arith, some) in let top = mul-le-mul_right (tens n) one in omega (arith, tens_some n, top, e))
])
nothing_counts zero (x ∷ y ∷ t) h le z e = absurd (omega (arith, le))
nothing_counts (suc n) (x ∷ y ∷ t) h le z e =
    let rest : fraction_value (tens (suc n) / 10) (y ∷ t) ≡ 0 = omega (arith, e) in
    absurd (not_none (nothing_counts n (y ∷ t) h.1 (omega (arith, le)) (no_zero_behind x (y ∷ t) z) (subst (λ (w : ℕ). fraction_value w (y ∷ t) ≡ 0) (tens_less n) rest)))
  where
    not_none : y ∷ t ≡ [] → ⊥
    not_none e = absurd cc

first_same : (n x y : ℕ) (t u : List ℕ) → AllDigits (x ∷ t) → AllDigits (y ∷ u) → length t ≤ n → length u ≤ n → fraction_value (tens n) (x ∷ t) ≡ fraction_value (tens n) (y ∷ u) →
    (x ≡ y) × (fraction_value (tens n / 10) t ≡ fraction_value (tens n / 10) u)
unfolding fraction_value
first_same n x y t u h k le ke e =
    let d : x - digit_zero ≡ y - digit_zero = quotient_same (x - digit_zero) (y - digit_zero) (tens n) (fraction_value (tens n / 10) t) (fraction_value (tens n / 10) u) e (rest_below n t h.1 le) (rest_below n u k.1 ke) in
    let times : (x - digit_zero) * tens n ≡ (y - digit_zero) * tens n = ap (λ (a : ℕ). a * tens n) d in
    (omega (arith, d, (digit_low x h.0).0, (digit_low y k.0).0), omega (arith, e, times))

none_counts : (n : ℕ) → fraction_value (tens n) [] ≡ 0
unfolding fraction_value
none_counts n = refl

same_digits : (n : ℕ) (ds es : List ℕ) → AllDigits ds → AllDigits es → length ds ≤ suc n → length es ≤ suc n → NoZeroEnd ds → NoZeroEnd es → fraction_value (tens n) ds ≡ fraction_value (tens n) es → ds ≡ es
same_digits n [] es h k le ke z w e = sym (nothing_counts n es k ke w (sym e ∙ none_counts n))
same_digits n (x ∷ t) [] h k le ke z w e = nothing_counts n (x ∷ t) h le z (e ∙ none_counts n)
same_digits zero (x ∷ t) (y ∷ u) h k le ke z w e =
    let first = first_same zero x y t u h k (omega (arith, le)) (omega (arith, ke)) e in
    rw (first.0, no_room t (omega (arith, le)), no_room u (omega (arith, ke))) refl
same_digits (suc n) (x ∷ t) (y ∷ u) h k le ke z w e =
    let first = first_same (suc n) x y t u h k (omega (arith, le)) (omega (arith, ke)) e in
    let rest : fraction_value (tens n) t ≡ fraction_value (tens n) u = ap (λ (v : ℕ). fraction_value v t) (sym (tens_less n)) ∙ first.1 ∙ ap (λ (v : ℕ). fraction_value v u) (tens_less n) in
    ap (λ (a : ℕ). a ∷ t) first.0 ∙ ap (λ (s : List ℕ). y ∷ s) (same_digits n t u h.1 k.1 (omega (arith, le)) (omega (arith, ke)) (no_zero_behind x t z) (no_zero_behind y u w) rest)

all_digits : (ds : List ℕ) → AreDigits ds → AllDigits ds
all_digits [] h = absurd h
all_digits (x ∷ ds) h = h

same_fraction : (f g : List ℕ) (n : ℕ) → IsShortFraction f n → IsShortFraction g n → f ≡ g
same_fraction f g n h k = elim h [
  | inl a ↦ elim k [
    | inl b ↦ a.0 ∙ sym b.0
    | inr b ↦ absurd (omega (arith, a.1, b.0))
  ]
  | inr a ↦ elim k [
    | inl b ↦ absurd (omega (arith, b.1, a.0))
    | inr b ↦ both f g a.0 a.1 b.1 a.2 b.2
  ]
]
  where
    both : (f g : List ℕ) → 0 < n → IsSecondFraction f n → IsSecondFraction g n → NoZeroEnd f → NoZeroEnd g → f ≡ g
    both [] g p a b z w = absurd (omega (arith, p, a))
    both (x ∷ ds) [] p a b z w = absurd (omega (arith, p, b))
    both (x ∷ ds) (y ∷ es) p a b z w =
        ap (λ (c : ℕ). c ∷ ds) (a.0 ∙ sym b.0)
        ∙ ap (λ (s : List ℕ). y ∷ s) (same_digits 8 ds es (all_digits ds a.1) (all_digits es b.1) a.2 b.2 (no_zero_behind x ds z) (no_zero_behind y es w) (sym a.3 ∙ b.3))

small_nanos : (f : List ℕ) (n : ℕ) → IsShortFraction f n → n < 1000000000
small_nanos f n h = elim h [
  | inl a ↦ omega (arith, a.1)
  | inr a ↦ some f a.1
]
  where
    some : (f : List ℕ) → IsSecondFraction f n → n < 1000000000
    some [] a = omega (arith, a)
    some (x ∷ ds) a = omega (arith, a.3, below 8 ds (all_digits ds a.1) a.2)

-- ---- the text

not_outside : (z : ℤ) → (IsOutside z → ⊥) → is_outside z ≡ false
not_outside z h = by_tests (int_lt z (negsuc 62135596799)) (int_lt (pos 253402300799) z) refl refl
  where
    by_tests : (a b : Bool) → int_lt z (negsuc 62135596799) ≡ a → int_lt (pos 253402300799) z ≡ b → (a || b) ≡ false
    by_tests true b e f = absurd (h (inl (omega (arith, ints, e))))
    by_tests false true e f = absurd (h (inr (omega (arith, ints, f))))
    by_tests false false e f = refl

outside : (z : ℤ) → IsOutside z → is_outside z ≡ true
outside z h = by_tests (int_lt z (negsuc 62135596799)) (int_lt (pos 253402300799) z) refl refl
  where
    by_tests : (a b : Bool) → int_lt z (negsuc 62135596799) ≡ a → int_lt (pos 253402300799) z ≡ b → (a || b) ≡ true
    by_tests true b e f = refl
    by_tests false true e f = refl
    by_tests false false e f = absurd (elim h [
      | inl low ↦ omega (arith, ints, e, low)
      | inr high ↦ omega (arith, ints, f, high)
    ])

pub date_is : (text : List ℕ) (m : Moment) → IsWrittenDate text m → date_of m ≡ Some text
unfolding date_of
date_is text m h =
    let w : IsWrittenDate (date_text h.local m.nanos) m = written_is h.local m h.exists (small_nanos h.fraction m.nanos h.is_fraction) h.is_seconds in
    let there : local_in m.seconds ≡ h.local = local_is h.local m.seconds h.exists h.is_seconds in
    let one : w.local ≡ h.local = sym (local_is w.local m.seconds w.exists w.is_seconds) ∙ there in
    let fraction : w.fraction ≡ h.fraction = same_fraction w.fraction h.fraction m.nanos w.is_fraction h.is_fraction in
    let same : date_text h.local m.nanos ≡ text = w.is ∙ ap (λ (l : LocalTime). spelled l capital_t (w.fraction ++ capital_z ∷ [])) one ∙ ap (λ (f : List ℕ). spelled h.local capital_t (f ++ capital_z ∷ [])) fraction ∙ sym h.is in
    rw (not_outside m.seconds (inside h.local m.seconds h.exists h.is_seconds)) (ap (λ (l : LocalTime). Some (date_text l m.nanos)) there ∙ ap Some same)

pub no_date : (m : Moment) → IsOutside m.seconds → date_of m ≡ None
unfolding date_of
no_date m h = rw (outside m.seconds h) refl
