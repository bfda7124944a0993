-- What stands for a moment is read as it.
use Rattle.std.proofs.Common.{◌≡◌, ℕ, ◌+◌, ◌-◌, ◌*◌, ◌/◌, ◌%◌, ◌<◌, ◌≤◌, ◌⊎◌, inl, inr, List, [], ◌∷◌, ◌++◌, length, Bool, true, false, Option, Some, None, refl, sym, ap, subst, ◌∙◌, arith}
use Rattle.std.specs.Prelude.{◌||◌, nat_le, nat_lt, ◌==◌, ℤ, pos, neg_ℤ, ◌-ℤ◌}
use Rattle.std.specs.Char.{is_ascii_digit}
use Rattle.jiff_core.specs.Calendar.{days_in_month}
use Rattle.jiff_core.proofs.CalendarLemmas.{days_in_month_bounds}
use Rattle.std.proofs.lemmas.Bool.{le-leb, lt-ltb, eq-eqb, ne_eqb, or_left, or_right}
use Rattle.cfg_base.specs.Moment.{Moment}
use Rattle.cfg_json.specs.Ascii.{plus_sign, hyphen_minus, full_stop, digit_zero, digit_nine, colon, capital_t, capital_z, small_t, small_z}
use Rattle.cfg_json.specs.Numbers.{AllDigits, AreDigits}
use Rattle.cfg_json.specs.Reading.{mark_at}
use Rattle.cfg_json.specs.declared.dates.local.LocalTime.{LocalTime}
use Rattle.cfg_json.specs.Dates.{two, four, IsCommonDate, Exists, spelled, seconds_of, fraction_value, first_weight, IsSecondFraction, IsZulu, IsNumericOffset, IsOffset, IsTimeText}
use Rattle.cfg_json.specs.ReadingDates.{digit, two_at, four_at, next_at, either_at, three_read, day_at, clock_at, local_at, add_front, nanos_from, nanos_at, second_fraction_at, is_civil, is_clock, offset_at, zone_of, moment_at}
use Rattle.cfg_json.proofs.NumberLaws.{NoDigit}

digit_again : (n : ℕ) → n < 10 → digit (digit_zero + n) ≡ Some n
digit_again n lt =
    let low : nat_le digit_zero (digit_zero + n) ≡ true = le-leb _ _ (omega arith) in
    let high : nat_le (digit_zero + n) digit_nine ≡ true = le-leb _ _ (omega arith) in
    rw (low, high) (ap Some (omega arith))

two_again : (n : ℕ) (t : List ℕ) → n < 100 → two_at (two n ++ t) ≡ Some (n, t)
unfolding two_at
two_again n t lt =
    rw (digit_again (n / 10) (omega arith), digit_again (n % 10) (omega arith)) (ap (λ (x : ℕ). Some (x, t)) (omega arith))

four_again : (n : ℕ) (t : List ℕ) → n < 10000 → four_at (four n ++ t) ≡ Some (n, t)
unfolding four_at
four_again n t lt =
    let first : two_at (two (n / 100) ++ (two (n % 100) ++ t)) ≡ Some (n / 100, two (n % 100) ++ t) = two_again (n / 100) _ (omega arith) in
    let second : two_at (two (n % 100) ++ t) ≡ Some (n % 100, t) = two_again (n % 100) t (omega arith) in
    rw (first, second) (ap (λ (x : ℕ). Some (x, t)) (omega arith))

next_again : (c n : ℕ) (t : List ℕ) → (c == c) ≡ true → n < 100 → next_at c (c ∷ (two n ++ t)) ≡ Some (n, t)
unfolding next_at mark_at
next_again c n t is lt = rw is (two_again n t lt)

mark_again : (mark : ℕ) (t : List ℕ) → (mark ≡ capital_t) ⊎ (mark ≡ small_t) → either_at capital_t small_t (mark ∷ t) ≡ Some t
unfolding either_at
mark_again mark t h =
    let e : ((mark == capital_t) || (mark == small_t)) ≡ true = elim h [ inl a ↦ or_left _ _ (eq-eqb mark capital_t a) | inr a ↦ or_right _ _ (eq-eqb mark small_t a) ] in
    rw e refl

-- the numbers of a date and a time have two digits, and the year has four
record Short (l : LocalTime) : Type 0 where
  year : l.year < 10000
  month : l.month < 100
  day : l.day < 100
  hour : l.hour < 100
  minute : l.minute < 100
  second : l.second < 100

short_numbers : (l : LocalTime) → Exists l → Short l
short_numbers l h = record {
  year = omega (arith, h.date.year_to);
  month = omega (arith, h.date.month_to);
  day = omega (arith, h.date.day_to, days_in_month_bounds (pos l.year) l.month);
  hour = omega (arith, h.hour);
  minute = omega (arith, h.minute);
  second = omega (arith, h.second);
}

day_again : (y m d : ℕ) (t : List ℕ) → y < 10000 → m < 100 → d < 100 → day_at (four y ++ (hyphen_minus ∷ (two m ++ (hyphen_minus ∷ (two d ++ t))))) ≡ three_read y m d t
unfolding day_at
day_again y m d t hy hm hd = rw (four_again y (hyphen_minus ∷ (two m ++ (hyphen_minus ∷ (two d ++ t)))) hy, next_again hyphen_minus m (hyphen_minus ∷ (two d ++ t)) refl hm, next_again hyphen_minus d t refl hd) refl

clock_again : (h m s : ℕ) (t : List ℕ) → h < 100 → m < 100 → s < 100 → clock_at (two h ++ (colon ∷ (two m ++ (colon ∷ (two s ++ t))))) ≡ three_read h m s t
unfolding clock_at
clock_again h m s t hh hm hs = rw (two_again h (colon ∷ (two m ++ (colon ∷ (two s ++ t)))) hh, next_again colon m (colon ∷ (two s ++ t)) refl hm, next_again colon s t refl hs) refl

local_again : (l : LocalTime) (mark : ℕ) (t : List ℕ) → Short l → (mark ≡ capital_t) ⊎ (mark ≡ small_t) → local_at (spelled l mark t) ≡ Some (l, t)
unfolding local_at spelled
local_again l mark t h m =
    rw (
      day_again l.year l.month l.day (mark ∷ (two l.hour ++ (colon ∷ (two l.minute ++ (colon ∷ (two l.second ++ t)))))) h.year h.month h.day,
      mark_again mark (two l.hour ++ (colon ∷ (two l.minute ++ (colon ∷ (two l.second ++ t))))) m,
      clock_again l.hour l.minute l.second t h.hour h.minute h.second,
    ) refl

-- ---- fractions

-- the weight lasts for so many digits
abbrev pub Lasts : ℕ → List ℕ → Type 0
Lasts weight [] = Unit {0}
Lasts weight (d ∷ ds) = (weight ≡ 0 → ⊥) × Lasts (weight / 10) ds

nine_last : (ds : List ℕ) → length ds ≤ 9 → Lasts first_weight ds
nine_last [] h = tt
nine_last (a ∷ []) h = ((λ e. omega arith), tt)
nine_last (a ∷ b ∷ []) h = ((λ e. omega arith), ((λ e. omega arith), tt))
nine_last (a ∷ b ∷ c ∷ []) h = ((λ e. omega arith), ((λ e. omega arith), ((λ e. omega arith), tt)))
nine_last (a ∷ b ∷ c ∷ d ∷ []) h = ((λ e. omega arith), ((λ e. omega arith), ((λ e. omega arith), ((λ e. omega arith), tt))))
nine_last (a ∷ b ∷ c ∷ d ∷ f ∷ []) h = ((λ e. omega arith), ((λ e. omega arith), ((λ e. omega arith), ((λ e. omega arith), ((λ e. omega arith), tt)))))
nine_last (a ∷ b ∷ c ∷ d ∷ f ∷ g ∷ []) h = ((λ e. omega arith), ((λ e. omega arith), ((λ e. omega arith), ((λ e. omega arith), ((λ e. omega arith), ((λ e. omega arith), tt))))))
nine_last (a ∷ b ∷ c ∷ d ∷ f ∷ g ∷ i ∷ []) h = ((λ e. omega arith), ((λ e. omega arith), ((λ e. omega arith), ((λ e. omega arith), ((λ e. omega arith), ((λ e. omega arith), ((λ e. omega arith), tt)))))))
nine_last (a ∷ b ∷ c ∷ d ∷ f ∷ g ∷ i ∷ j ∷ []) h = ((λ e. omega arith), ((λ e. omega arith), ((λ e. omega arith), ((λ e. omega arith), ((λ e. omega arith), ((λ e. omega arith), ((λ e. omega arith), ((λ e. omega arith), tt))))))))
nine_last (a ∷ b ∷ c ∷ d ∷ f ∷ g ∷ i ∷ j ∷ k ∷ []) h = ((λ e. omega arith), ((λ e. omega arith), ((λ e. omega arith), ((λ e. omega arith), ((λ e. omega arith), ((λ e. omega arith), ((λ e. omega arith), ((λ e. omega arith), ((λ e. omega arith), tt)))))))))
nine_last (a ∷ b ∷ c ∷ d ∷ f ∷ g ∷ i ∷ j ∷ k ∷ l ∷ ds) h = absurd (omega arith)

digit_is : (x : ℕ) → is_ascii_digit x ≡ true → digit x ≡ Some (x - digit_zero)
digit_is x e = rw e refl

no_digit_is : (x : ℕ) → is_ascii_digit x ≡ false → digit x ≡ None
no_digit_is x e = rw e refl

nanos_again : (weight : ℕ) (ds rest : List ℕ) → AllDigits ds → Lasts weight ds → NoDigit rest → nanos_from weight (ds ++ rest) ≡ Some (fraction_value weight ds, rest)
unfolding nanos_from fraction_value
nanos_again weight [] [] h l n = refl
nanos_again weight [] (x ∷ t) h l n = let e = no_digit_is x n in rw e refl
nanos_again weight (d ∷ ds) rest h l n =
    let e = digit_is d h.0 in
    let some : (weight == 0) ≡ false = ne_eqb weight 0 l.0 in
    rw (e, some) (ap (add_front ((d - digit_zero) * weight)) (nanos_again (weight / 10) ds rest h.1 l.1 n))

some_nanos_again : (ds rest : List ℕ) → AreDigits ds → length ds ≤ 9 → NoDigit rest → nanos_at (ds ++ rest) ≡ Some (fraction_value first_weight ds, rest)
unfolding nanos_at
some_nanos_again [] rest h l n = absurd h
some_nanos_again (d ∷ ds) rest h l n = let e = digit_is d h.0 in rw e (nanos_again first_weight (d ∷ ds) rest h (nine_last (d ∷ ds) l) n)

-- how a zone begins
pub record ZoneHead (zone : List ℕ) : Type 0 where
  pub first : ℕ
  pub others : List ℕ
  pub is : zone ≡ first ∷ others
  pub digit : is_ascii_digit first ≡ false
  pub point : (first == full_stop) ≡ false

zulu_head : (zone : List ℕ) (z : ℤ) → IsZulu zone z → ZoneHead zone
zulu_head zone z h = elim h.0 [
  | inl a ↦ record { first = capital_z; others = []; is = a; digit = refl; point = refl }
  | inr a ↦ record { first = small_z; others = []; is = a; digit = refl; point = refl }
]

sign_no_digit : (sign : ℕ) (A B : Type 0) → ((sign ≡ plus_sign) × A) ⊎ ((sign ≡ hyphen_minus) × B) → is_ascii_digit sign ≡ false
sign_no_digit sign A B h = elim h [ inl a ↦ ap is_ascii_digit a.0 | inr a ↦ ap is_ascii_digit a.0 ]

sign_no_point : (sign : ℕ) (A B : Type 0) → ((sign ≡ plus_sign) × A) ⊎ ((sign ≡ hyphen_minus) × B) → (sign == full_stop) ≡ false
sign_no_point sign A B h = elim h [ inl a ↦ ap (λ y. y == full_stop) a.0 | inr a ↦ ap (λ y. y == full_stop) a.0 ]

numeric_head : (zone : List ℕ) (z : ℤ) → IsNumericOffset zone z → ZoneHead zone
numeric_head zone z h = record { first = h.sign; others = two h.hour ++ colon ∷ two h.minute; is = h.is; digit = sign_no_digit h.sign _ _ h.is_offset; point = sign_no_point h.sign _ _ h.is_offset }

-- the zones that a reader takes
abbrev pub Zones : Bool → List ℕ → ℤ → Type 0
Zones false = IsZulu
Zones true = IsOffset

zone_head : (offsets : Bool) (zone : List ℕ) (z : ℤ) → Zones offsets zone z → ZoneHead zone
zone_head false zone z h = zulu_head zone z h
zone_head true zone z h = elim h [ inl a ↦ zulu_head zone z a | inr a ↦ numeric_head zone z a ]

fraction_again : (fraction zone : List ℕ) (nanos : ℕ) → IsSecondFraction fraction nanos → ZoneHead zone → second_fraction_at (fraction ++ zone) ≡ Some (nanos, zone)
unfolding second_fraction_at
fraction_again [] zone nanos h k =
    let no_point = k.point in
    let here : second_fraction_at (k.first ∷ k.others) ≡ Some (0, k.first ∷ k.others) = rw no_point refl in
    ap second_fraction_at k.is ∙ here ∙ ap (λ (n : ℕ). Some (n, k.first ∷ k.others)) (sym h) ∙ ap (λ (t : List ℕ). Some (nanos, t)) (sym k.is)
fraction_again (x ∷ ds) zone nanos h k =
    let point : (x == full_stop) ≡ true = eq-eqb x full_stop h.0 in
    let no_digit : NoDigit zone = subst NoDigit (sym k.is) k.digit in
    rw point (some_nanos_again ds zone h.1 h.2 no_digit ∙ ap (λ (n : ℕ). Some (n, zone)) (sym h.3))

-- ---- zones

offset_again : (hour minute : ℕ) → hour < 24 → minute < 60 → offset_at (two hour ++ colon ∷ two minute) ≡ Some (hour * 3600 + minute * 60)
unfolding offset_at
offset_again hour minute h m =
    let a : two_at (two hour ++ colon ∷ two minute) ≡ Some (hour, colon ∷ two minute) = two_again hour (colon ∷ two minute) (omega arith) in
    let b : next_at colon (colon ∷ two minute) ≡ Some (minute, []) = next_again colon minute [] refl (omega arith) in
    let c : nat_lt hour 24 ≡ true = lt-ltb _ _ h in
    let d : nat_lt minute 60 ≡ true = lt-ltb _ _ m in
    rw (a, b, c, d) refl

zulu_again : (offsets : Bool) (zone : List ℕ) (z : ℤ) → IsZulu zone z → zone_of offsets zone ≡ Some z
unfolding zone_of
zulu_again offsets zone z h = elim h.0 [
  | inl a ↦ ap (zone_of offsets) a ∙ ap (λ (y : ℤ). Some y) (sym h.1)
  | inr a ↦ ap (zone_of offsets) a ∙ ap (λ (y : ℤ). Some y) (sym h.1)
]

plus_again : (t : List ℕ) (n : ℕ) → offset_at t ≡ Some n → zone_of true (plus_sign ∷ t) ≡ Some (pos n)
unfolding zone_of
plus_again t n e = rw e refl

minus_again : (t : List ℕ) (n : ℕ) → offset_at t ≡ Some n → zone_of true (hyphen_minus ∷ t) ≡ Some (neg_ℤ (pos n))
unfolding zone_of
minus_again t n e = rw e refl

numeric_again : (zone : List ℕ) (z : ℤ) → IsNumericOffset zone z → zone_of true zone ≡ Some z
numeric_again zone z h =
    let e = offset_again h.hour h.minute h.is_hour h.is_minute in
    let t : List ℕ = two h.hour ++ colon ∷ two h.minute in
    elim h.is_offset [
      | inl a ↦ ap (zone_of true) (h.is ∙ ap (λ (s : ℕ). s ∷ t) a.0) ∙ plus_again t _ e ∙ ap (λ (y : ℤ). Some y) (sym a.1)
      | inr a ↦ ap (zone_of true) (h.is ∙ ap (λ (s : ℕ). s ∷ t) a.0) ∙ minus_again t _ e ∙ ap (λ (y : ℤ). Some y) (sym a.1)
    ]

zone_again : (offsets : Bool) (zone : List ℕ) (z : ℤ) → Zones offsets zone z → zone_of offsets zone ≡ Some z
zone_again false zone z h = zulu_again false zone z h
zone_again true zone z h = elim h [ inl a ↦ zulu_again true zone z a | inr a ↦ numeric_again zone z a ]

-- ---- the moment

civil_is : (y m d : ℕ) → IsCommonDate y m d → is_civil y m d ≡ true
civil_is y m d h =
    let a : nat_le 1 y ≡ true = le-leb _ _ h.year_from in
    let b : nat_le y 9999 ≡ true = le-leb _ _ h.year_to in
    let c : nat_le 1 m ≡ true = le-leb _ _ h.month_from in
    let e : nat_le m 12 ≡ true = le-leb _ _ h.month_to in
    let f : nat_le 1 d ≡ true = le-leb _ _ h.day_from in
    let g : nat_le d (days_in_month (pos y) m) ≡ true = le-leb _ _ h.day_to in
    rw (a, b, c, e, f, g) refl

clock_is : (h m s : ℕ) → h < 24 → m < 60 → s < 60 → is_clock h m s ≡ true
clock_is h m s a b c =
    let x : nat_lt h 24 ≡ true = lt-ltb _ _ a in
    let y : nat_lt m 60 ≡ true = lt-ltb _ _ b in
    let z : nat_lt s 60 ≡ true = lt-ltb _ _ c in
    rw (x, y, z) refl

abbrev a_moment : ℤ → ℕ → Option Moment
a_moment s n = Some (record { seconds = s; nanos = n })

spelled_again : (offsets : Bool) (l : LocalTime) (mark : ℕ) (fraction zone : List ℕ) (nanos : ℕ) (z : ℤ) → Exists l → (mark ≡ capital_t) ⊎ (mark ≡ small_t) → IsSecondFraction fraction nanos → Zones offsets zone z
    → moment_at offsets (spelled l mark (fraction ++ zone)) ≡ a_moment (seconds_of l -ℤ z) nanos
unfolding moment_at
spelled_again offsets l mark fraction zone nanos z h m f k =
    rw (
      local_again l mark (fraction ++ zone) (short_numbers l h) m,
      fraction_again fraction zone nanos f (zone_head offsets zone z k),
      zone_again offsets zone z k,
      civil_is l.year l.month l.day h.date,
      clock_is l.hour l.minute l.second h.hour h.minute h.second,
    ) refl

pub moment_again : (offsets : Bool) (t : List ℕ) (m : Moment) → IsTimeText (Zones offsets) t m → moment_at offsets t ≡ Some m
moment_again offsets t m h =
    ap (moment_at offsets) h.is ∙ spelled_again offsets h.local h.mark h.fraction h.zone m.nanos h.offset h.exists h.is_mark h.is_fraction h.is_zone ∙ ap (λ (s : ℤ). a_moment s m.nanos) (sym h.is_seconds)
