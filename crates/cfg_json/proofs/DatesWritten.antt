-- What is written for a moment stands for it.
use Rattle.std.proofs.Common.{◌≡◌, ℕ, suc, ◌+◌, ◌-◌, ◌*◌, ◌/◌, ◌%◌, ◌<◌, ◌≤◌, inl, inr, List, [], ◌∷◌, ◌++◌, length, Bool, true, false, cond, Some, None, refl, sym, ap, subst, ◌∙◌, arith}
use Rattle.std.specs.Prelude.{◌==◌, ℤ, pos, negsuc, ◌-ℤ◌, ◌<ℤ◌, ◌≤ℤ◌}
use Rattle.std.specs.Char.{is_ascii_digit}
use Rattle.std.specs.Str.{IsAscii}
use Rattle.std.proofs.lemmas.Bool.{eqb-true, eqb-false, ne_eqb, and_from, le-leb, cases_eq}
use Rattle.std.proofs.lemmas.List.{nil_from_length}
use Rattle.std.proofs.lemmas.Str.{IsUtf8-from_ascii, chars-IsAscii}
use Rattle.jiff_core.specs.Calendar.{days_from_civil, day_count, days_of_years, days_of_months, IsCivilDate}
use Rattle.jiff_core.proofs.CalendarLemmas.{days_in_month_bounds, day_count-lt_year, day_count-lt_month, day_count-day, day_count_bounds, days_from_civil-day_count}
use Rattle.jiff_core.proofs.SignedLemmas.{signed_arith}
use Rattle.cfg_base.specs.Moment.{Moment}
use Rattle.cfg_base.specs.Text.{characters}
use Rattle.cfg_base.proofs.TextLemmas.{characters-chars}
use Rattle.cfg_json.specs.Ascii.{full_stop, digit_zero, digit_nine, capital_t, capital_z}
use Rattle.cfg_json.specs.Numbers.{AllDigits, AreDigits}
use Rattle.cfg_json.specs.declared.dates.local.LocalTime.{LocalTime}
use Rattle.cfg_json.specs.Dates.{IsCommonDate, Exists, spelled, seconds_of, fraction_value, first_weight, IsSecondFraction, IsShortFraction, IsDateText, IsOutside, IsWrittenDate}
use Rattle.cfg_json.specs.WritingDates.{nine, drop_zero, without_zeros, fraction_of, day_text, clock_text, date_text}
use Rattle.cfg_json.specs.Reading.{utf8_of}
use Rattle.cfg_json.proofs.DatesTake.{time_ascii}
use Rattle.cfg_json.proofs.Utf8.{utf8_of-valid}

-- ---- the calendar

year_one : days_from_civil (pos 1) 1 1 ≡ negsuc 719161
unfolding days_from_civil day_count days_of_years days_of_months
year_one = refl

pub before_year_one : (y : ℤ) (m d : ℕ) → IsCivilDate y m d → y <ℤ pos 1 → days_from_civil y m d <ℤ negsuc 719161
before_year_one y m d h lt =
    let less : day_count y m d < day_count (pos 1) 1 1 = day_count-lt_year y m d (pos 1) 1 1 h (omega arith) lt in
    let first = days_from_civil-day_count (pos 1) 1 1 in
    let this = days_from_civil-day_count y m d in
    let one = year_one in
    omega (arith, signed_arith, less, first, this, one)

-- ---- zeros at the end

zeros_behind : (x : ℕ) (front : List ℕ) → without_zeros (front ++ digit_zero ∷ []) ≡ without_zeros front
unfolding without_zeros
zeros_behind x [] = refl
zeros_behind x (y ∷ front) = ap (drop_zero y) (zeros_behind x front)

other_behind : (x : ℕ) (front : List ℕ) → (x == digit_zero) ≡ false → without_zeros (front ++ x ∷ []) ≡ front ++ x ∷ []
unfolding without_zeros
other_behind x [] e = rw e refl
other_behind x (y ∷ front) e = ap (drop_zero y) (other_behind x front e) ∙ kept y front x where
  kept : (y : ℕ) (front : List ℕ) (x : ℕ) → drop_zero y (front ++ x ∷ []) ≡ y ∷ (front ++ x ∷ [])
  kept y [] x = refl
  kept y (z ∷ front) x = refl

pub zero_off : (rest : List ℕ) (x : ℕ) (front total : List ℕ) → rest ≡ front ++ x ∷ [] → x ≡ digit_zero → without_zeros rest ≡ total → without_zeros front ≡ total
zero_off rest x front total is z so_far = sym (zeros_behind x front) ∙ ap (λ (y : ℕ). without_zeros (front ++ y ∷ [])) (sym z) ∙ sym (ap without_zeros is) ∙ so_far

pub no_zero : (rest : List ℕ) (x : ℕ) (front total : List ℕ) → rest ≡ front ++ x ∷ [] → (x ≡ digit_zero → ⊥) → without_zeros rest ≡ total → rest ≡ total
no_zero rest x front total is n so_far = is ∙ sym (other_behind x front (ne_eqb x digit_zero n)) ∙ sym (ap without_zeros is) ∙ so_far

pub none_left : (rest total : List ℕ) → length rest ≡ 0 → without_zeros rest ≡ total → rest ≡ total
unfolding without_zeros
none_left rest total e so_far = let n = nil_from_length rest e in n ∙ sym (ap without_zeros n) ∙ so_far

all_dropped : (x : ℕ) (xs : List ℕ) (front : List ℕ) → ((front : List ℕ) → xs ≡ front ++ digit_zero ∷ [] → ⊥) → drop_zero x xs ≡ front ++ digit_zero ∷ [] → ⊥
all_dropped x [] front later e = one x front (x == digit_zero) refl e where
  nil_end : (front : List ℕ) → [] ≡ front ++ digit_zero ∷ [] → ⊥
  nil_end [] e = absurd cc
  nil_end (y ∷ front) e = absurd cc

  head_end : (x : ℕ) (front : List ℕ) → x ∷ [] ≡ front ++ digit_zero ∷ [] → x ≡ digit_zero
  head_end x [] e = cc
  head_end x (y ∷ front) e = absurd (nil_end front (tail_same x y [] (front ++ digit_zero ∷ []) e)) where
    tail_same : (x y : ℕ) (s t : List ℕ) → x ∷ s ≡ y ∷ t → s ≡ t
    tail_same x y s t e = cc

  one : (x : ℕ) (front : List ℕ) (b : Bool) → (x == digit_zero) ≡ b → cond b [] (x ∷ []) ≡ front ++ digit_zero ∷ [] → ⊥
  one x front true k e = nil_end front e
  one x front false k e = eqb-false x digit_zero k (head_end x front e)
all_dropped x (y ∷ ys) [] later e = absurd cc
all_dropped x (y ∷ ys) (z ∷ front) later e = later front (tail_same x z (y ∷ ys) (front ++ digit_zero ∷ []) e) where
  tail_same : (x y : ℕ) (s t : List ℕ) → x ∷ s ≡ y ∷ t → s ≡ t
  tail_same x y s t e = cc

no_zero_ends : (ds front : List ℕ) → without_zeros ds ≡ front ++ digit_zero ∷ [] → ⊥
unfolding without_zeros
no_zero_ends [] [] e = absurd cc
no_zero_ends [] (y ∷ front) e = absurd cc
no_zero_ends (x ∷ xs) front e = all_dropped x (without_zeros xs) front (no_zero_ends xs) e

-- ---- what the digits stand for

value_dropped : (weight x : ℕ) (xs : List ℕ) → fraction_value weight (drop_zero x xs) ≡ (x - digit_zero) * weight + fraction_value (weight / 10) xs
unfolding fraction_value
value_dropped weight x [] = one weight x (x == digit_zero) refl where
  one : (weight x : ℕ) (b : Bool) → (x == digit_zero) ≡ b → fraction_value weight (cond b [] (x ∷ [])) ≡ (x - digit_zero) * weight + 0
  one weight x true k = let z : x - digit_zero ≡ 0 = omega (arith, eqb-true x digit_zero k) in sym (rw z (omega arith))
  one weight x false k = refl
value_dropped weight x (y ∷ ys) = refl

value_kept : (weight : ℕ) (ds : List ℕ) → fraction_value weight (without_zeros ds) ≡ fraction_value weight ds
unfolding without_zeros fraction_value
value_kept weight [] = refl
value_kept weight (x ∷ xs) = value_dropped weight x (without_zeros xs) ∙ ap (λ (n : ℕ). (x - digit_zero) * weight + n) (value_kept (weight / 10) xs)

three_value : (n : ℕ) → n < 1000 → n / 100 * 100 + (n / 10 % 10 * 10 + n % 10) ≡ n
three_value n lt = omega arith

off : (x : ℕ) → digit_zero + x - digit_zero ≡ x
off x = omega arith

nine_cells : (a b c d e f g h i : ℕ) → fraction_value first_weight ((digit_zero + a) ∷ (digit_zero + b) ∷ (digit_zero + c) ∷ (digit_zero + d) ∷ (digit_zero + e) ∷ (digit_zero + f) ∷ (digit_zero + g) ∷ (digit_zero + h) ∷ (digit_zero + i) ∷ [])
    ≡ a * 100000000 + (b * 10000000 + (c * 1000000 + (d * 100000 + (e * 10000 + (f * 1000 + (g * 100 + (h * 10 + (i * 1 + 0))))))))
unfolding fraction_value
nine_cells a b c d e f g h i = rw (off a, off b, off c, off d, off e, off f, off g, off h, off i) refl

nine_groups : (a b c n x1 x2 x3 y1 y2 y3 z1 z2 z3 : ℕ) → x1 * 100 + (x2 * 10 + x3) ≡ a → y1 * 100 + (y2 * 10 + y3) ≡ b → z1 * 100 + (z2 * 10 + z3) ≡ c → n ≡ a * 1000000 + (b * 1000 + c)
    → x1 * 100000000 + (x2 * 10000000 + (x3 * 1000000 + (y1 * 100000 + (y2 * 10000 + (y3 * 1000 + (z1 * 100 + (z2 * 10 + (z3 * 1 + 0)))))))) ≡ n
nine_groups a b c n x1 x2 x3 y1 y2 y3 z1 z2 z3 p q r s = omega (arith, p, q, r, s)

nine_value : (n : ℕ) → n < 1000000000 → fraction_value first_weight (nine n) ≡ n
unfolding nine
nine_value n lt =
    nine_cells (n / 1000000 / 100) (n / 1000000 / 10 % 10) (n / 1000000 % 10) (n / 1000 % 1000 / 100) (n / 1000 % 1000 / 10 % 10) (n / 1000 % 1000 % 10) (n % 1000 / 100) (n % 1000 / 10 % 10) (n % 1000 % 10)
    ∙ nine_groups (n / 1000000) (n / 1000 % 1000) (n % 1000) n _ _ _ _ _ _ _ _ _ (three_value (n / 1000000) (omega arith)) (three_value (n / 1000 % 1000) (omega arith)) (three_value (n % 1000) (omega arith)) (omega arith)

-- ---- the digits

digit_of : (n : ℕ) → n < 10 → is_ascii_digit (digit_zero + n) ≡ true
digit_of n lt = and_from _ _ (le-leb digit_zero (digit_zero + n) (omega arith)) (le-leb (digit_zero + n) digit_nine (omega arith))

nine_digits : (n : ℕ) → n < 1000000000 → AllDigits (nine n)
unfolding nine
nine_digits n lt = (
  digit_of (n / 1000000 / 100) (omega arith),
  (
    digit_of (n / 1000000 / 10 % 10) (omega arith),
    (
      digit_of (n / 1000000 % 10) (omega arith),
      (
        digit_of (n / 1000 % 1000 / 100) (omega arith),
        (
          digit_of (n / 1000 % 1000 / 10 % 10) (omega arith),
          (
            digit_of (n / 1000 % 1000 % 10) (omega arith),
            (
              digit_of (n % 1000 / 100) (omega arith),
              (
                digit_of (n % 1000 / 10 % 10) (omega arith),
                (digit_of (n % 1000 % 10) (omega arith), tt),
              ),
            ),
          ),
        ),
      ),
    ),
  ),
)

nine_long : (n : ℕ) → length (nine n) ≡ 9
unfolding nine
nine_long n = refl

kept_digits : (ds : List ℕ) → AllDigits ds → AllDigits (without_zeros ds) × (length (without_zeros ds) ≤ length ds)
unfolding without_zeros
kept_digits [] h = (tt, omega arith)
kept_digits (x ∷ xs) h = let k = kept_digits xs h.1 in kept x (without_zeros xs) (length xs) h.0 k.0 k.1 where
  one : (x n : ℕ) (b : Bool) → is_ascii_digit x ≡ true → AllDigits (cond b [] (x ∷ [])) × (length (cond {A = List ℕ} b [] (x ∷ [])) ≤ suc n)
  one x n true d = (tt, omega arith)
  one x n false d = ((d, tt), omega arith)

  kept : (x : ℕ) (ys : List ℕ) (n : ℕ) → is_ascii_digit x ≡ true → AllDigits ys → length ys ≤ n → AllDigits (drop_zero x ys) × (length (drop_zero x ys) ≤ suc n)
  kept x [] n d h le = one x n (x == digit_zero) d
  kept x (y ∷ ys) n d h le = ((d, h), omega arith)

some_digits : (ds : List ℕ) (n : ℕ) → 0 < n → fraction_value first_weight ds ≡ n → AllDigits ds → AreDigits ds
unfolding fraction_value
some_digits [] n lt e h = absurd (omega (arith, e))
some_digits (x ∷ ds) n lt e h = h

head_no_zero : (ds front : List ℕ) → ((front : List ℕ) → ds ≡ front ++ digit_zero ∷ [] → ⊥) → full_stop ∷ ds ≡ front ++ digit_zero ∷ [] → ⊥
head_no_zero ds [] later e = absurd (omega (arith, head_same full_stop digit_zero ds [] e)) where
  head_same : (x y : ℕ) (s t : List ℕ) → x ∷ s ≡ y ∷ t → x ≡ y
  head_same x y s t e = cc
head_no_zero ds (y ∷ front) later e = later front (tail_same full_stop y ds (front ++ digit_zero ∷ []) e) where
  tail_same : (x y : ℕ) (s t : List ℕ) → x ∷ s ≡ y ∷ t → s ≡ t
  tail_same x y s t e = cc

some_fraction : (n : ℕ) → 0 < n → n < 1000000000 → IsSecondFraction (full_stop ∷ without_zeros (nine n)) n
some_fraction n pos_ lt =
    let k = kept_digits (nine n) (nine_digits n lt) in
    let value : fraction_value first_weight (without_zeros (nine n)) ≡ n = value_kept first_weight (nine n) ∙ nine_value n lt in
    (refl, some_digits (without_zeros (nine n)) n pos_ value k.0, omega (arith, k.1, nine_long n), sym value)

fraction_is : (n : ℕ) → n < 1000000000 → IsShortFraction (fraction_of n) n
unfolding fraction_of
fraction_is n lt = by_zero n lt (n == 0) refl where
  by_zero : (n : ℕ) → n < 1000000000 → (b : Bool) → (n == 0) ≡ b → IsShortFraction (cond b [] (full_stop ∷ without_zeros (nine n))) n
  by_zero n lt true e = inl (refl, eqb-true n 0 e)
  by_zero n lt false e =
      let above : 0 < n = let z = eqb-false n 0 e in omega arith in
      inr (above, some_fraction n above lt, (λ front h. head_no_zero (without_zeros (nine n)) front (no_zero_ends (nine n)) h))

-- ---- the text

text_is : (l : LocalTime) (n : ℕ) → date_text l n ≡ spelled l capital_t (fraction_of n ++ capital_z ∷ [])
unfolding date_text day_text clock_text spelled
text_is l n = refl

pub written_is : (l : LocalTime) (m : Moment) → Exists l → m.nanos < 1000000000 → m.seconds ≡ seconds_of l → IsWrittenDate (date_text l m.nanos) m
written_is l m h lt e = record { local = l; fraction = fraction_of m.nanos; is = text_is l m.nanos; exists = h; is_fraction = fraction_is m.nanos lt; is_seconds = e }

short_second : (fraction : List ℕ) (nanos : ℕ) → IsShortFraction fraction nanos → IsSecondFraction fraction nanos
short_second fraction nanos h = elim h [ inl a ↦ subst (λ (f : List ℕ). IsSecondFraction f nanos) (sym a.0) a.1 | inr a ↦ a.1 ]

less_zero : (z : ℤ) → z ≡ z -ℤ pos 0
less_zero z = omega (arith, signed_arith)

pub written_stands : (t : List ℕ) (m : Moment) → IsWrittenDate t m → IsDateText t m
written_stands t m h = record {
  local = h.local;
  mark = capital_t;
  fraction = h.fraction;
  zone = capital_z ∷ [];
  offset = pos 0;
  is = h.is;
  exists = h.exists;
  is_mark = inl refl;
  is_fraction = short_second h.fraction m.nanos h.is_fraction;
  is_zone = (inl refl, refl);
  is_seconds = h.is_seconds ∙ less_zero (seconds_of h.local);
}

date_ascii : (l : LocalTime) (n : ℕ) → Exists l → n < 1000000000 → IsAscii (date_text l n)
date_ascii l n h lt =
    let m : Moment = record { seconds = seconds_of l; nanos = n } in
    time_ascii false (date_text l n) m (written_stands (date_text l n) m (written_is l m h lt refl))

pub date_utf8 : (l : LocalTime) (n : ℕ) → Exists l → n < 1000000000 → utf8_of (date_text l n) ≡ Some (date_text l n)
date_utf8 l n h lt = utf8_of-valid (date_text l n) (IsUtf8-from_ascii (date_text l n) (date_ascii l n h lt))

pub date_characters : (l : LocalTime) (n : ℕ) → Exists l → n < 1000000000 → characters (date_text l n) ≡ date_text l n
date_characters l n h lt = characters-chars (date_text l n) ∙ chars-IsAscii (date_text l n) (date_ascii l n h lt)

-- ---- the years

same_year : (m d : ℕ) → 1 ≤ m → 1 ≤ d → IsCivilDate (pos 1) 1 1 → day_count (pos 1) 1 1 ≤ day_count (pos 1) m d
same_year m d hm hd h = elim (cases_eq m 1) [
  | inl e ↦ subst (λ (k : ℕ). day_count (pos 1) 1 1 ≤ day_count (pos 1) k d) (sym e) (omega (arith, day_count-day (pos 1) 1 1 d (omega arith) hd))
  | inr n ↦ (let less = day_count-lt_month (pos 1) 1 1 m d h hd (omega (arith, n)) in omega (arith, less))
]

first_day : IsCivilDate (pos 1) 1 1
first_day = ((omega (arith, signed_arith), omega (arith, signed_arith)), (omega arith, omega arith), (omega arith, omega (arith, days_in_month_bounds (pos 1) 1)))

civil : (y m d : ℕ) → IsCommonDate y m d → IsCivilDate (pos y) m d
civil y m d h = ((omega (arith, signed_arith, h.year_from), omega (arith, signed_arith, h.year_to)), (h.month_from, h.month_to), (h.day_from, h.day_to))

from_year_one : (y m d : ℕ) → IsCommonDate y m d → day_count (pos 1) 1 1 ≤ day_count (pos y) m d
from_year_one y m d h = elim (cases_eq y 1) [
  | inl e ↦ subst (λ (k : ℕ). day_count (pos 1) 1 1 ≤ day_count (pos k) m d) (sym e) (same_year m d h.month_from h.day_from first_day)
  | inr n ↦
      let later : pos 1 <ℤ pos y = omega (arith, signed_arith, h.year_from, n) in
      let less = day_count-lt_year (pos 1) 1 1 (pos y) m d first_day h.day_from later in
      omega (arith, less)
]

-- the seconds of a date and a time lie in the years 1 to 9999
pub inside : (l : LocalTime) (z : ℤ) → Exists l → z ≡ seconds_of l → IsOutside z → ⊥
unfolding seconds_of
inside l z h e o =
    let c = civil l.year l.month l.day h.date in
    let low = from_year_one l.year l.month l.day h.date in
    let high = (day_count_bounds (pos l.year) l.month l.day c).1 in
    let first = days_from_civil-day_count (pos 1) 1 1 in
    let this = days_from_civil-day_count (pos l.year) l.month l.day in
    let one = year_one in
    let from : negsuc 719161 ≤ℤ days_from_civil (pos l.year) l.month l.day = omega (arith, signed_arith, low, first, this, one) in
    let to : days_from_civil (pos l.year) l.month l.day ≤ℤ pos 2932896 = omega (arith, signed_arith, high, this) in
    elim o [
      | inl a ↦ absurd (omega (arith, signed_arith, from, a, e, h.hour, h.minute, h.second))
      | inr a ↦ absurd (omega (arith, signed_arith, to, a, e, h.hour, h.minute, h.second))
    ]

-- ---- the steps of the writer

some_is : (s t : List ℕ) → Some s ≡ Some t → s ≡ t
some_is s t e = cc

none_some : (t : List ℕ) → None ≡ Some t → ⊥
none_some t e = absurd cc

pub not_utf8 : (l : LocalTime) (n : ℕ) (bytes slice : List ℕ) → Exists l → n < 1000000000 → bytes ≡ date_text l n → slice ≡ bytes → None ≡ utf8_of slice → ⊥
not_utf8 l n bytes slice h lt is same e = none_some (date_text l n) (e ∙ ap utf8_of (same ∙ is) ∙ date_utf8 l n h lt)

pub text_of_date : (l : LocalTime) (n : ℕ) (bytes slice text t : List ℕ) → Exists l → n < 1000000000 → bytes ≡ date_text l n → slice ≡ bytes → Some text ≡ utf8_of slice → t ≡ characters text → t ≡ date_text l n
text_of_date l n bytes slice text t h lt is same e made = made ∙ ap characters (some_is text (date_text l n) (e ∙ ap utf8_of (same ∙ is) ∙ date_utf8 l n h lt)) ∙ date_characters l n h lt

pub written_from : (l : LocalTime) (m : Moment) (n : ℕ) (z : ℤ) (t : List ℕ) → Exists l → n < 1000000000 → n ≡ m.nanos → z ≡ m.seconds → z ≡ seconds_of l → t ≡ date_text l n → IsWrittenDate t m
written_from l m n z t h lt same is e made =
    subst (λ (x : List ℕ). IsWrittenDate x m) (sym (made ∙ ap (date_text l) same)) (written_is l m h (omega (arith, lt, same)) (sym is ∙ e))
