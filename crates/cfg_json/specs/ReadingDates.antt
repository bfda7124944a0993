-- Reading a date from left to right.
use Rattle.std.specs.Prelude.{ℕ, ◌+◌, ◌-◌, ◌*◌, ◌/◌, List, [], ◌∷◌, Bool, ◌&&◌, ◌||◌, nat_lt, nat_le, ◌==◌, Option, Some, None, if◌then◌else◌, ℤ, pos, neg_ℤ, ◌-ℤ◌}
use Rattle.jiff_core.specs.Calendar.{days_in_month}
use Rattle.cfg_base.specs.Moment.{Moment}
use Rattle.cfg_json.specs.Ascii.{plus_sign, hyphen_minus, full_stop, digit_zero, digit_nine, colon, capital_t, capital_z, small_t, small_z}
use Rattle.cfg_json.specs.Reads.{◌>>=◌}
use Rattle.cfg_json.specs.Reading.{mark_at}
use Rattle.cfg_json.specs.Dates.{seconds_of, first_weight}
use Rattle.cfg_json.specs.declared.dates.local.LocalTime.{LocalTime}

abbrev pub digit : ℕ → Option ℕ
digit c = if nat_le digit_zero c && nat_le c digit_nine then Some (c - digit_zero) else None

unfoldable pub two_at : List ℕ → Option (ℕ × List ℕ)
two_at [] = None
two_at (a ∷ []) = None
two_at (a ∷ b ∷ t) = digit a >>= λ x. digit b >>= λ y. Some (x * 10 + y, t)

unfoldable pub four_at : List ℕ → Option (ℕ × List ℕ)
four_at t = two_at t >>= λ a. two_at a.1 >>= λ b. Some (a.0 * 100 + b.0, b.1)

-- two digits behind the byte c
unfoldable pub next_at : ℕ → List ℕ → Option (ℕ × List ℕ)
next_at c t = mark_at c t >>= two_at

-- what follows one byte or the other
unfoldable pub either_at : ℕ → ℕ → List ℕ → Option (List ℕ)
either_at c d [] = None
either_at c d (x ∷ t) = if (x == c) || (x == d) then Some t else None

abbrev pub ReadThree : Type 0
ReadThree = (ℕ × ℕ × ℕ) × List ℕ

abbrev pub three_read : ℕ → ℕ → ℕ → List ℕ → Option ReadThree
three_read a b c t = Some ((a, b, c), t)

-- year, month and day
unfoldable pub day_at : List ℕ → Option ReadThree
day_at t = four_at t >>= λ y. next_at hyphen_minus y.1 >>= λ m. next_at hyphen_minus m.1 >>= λ d. three_read y.0 m.0 d.0 d.1

-- hour, minute and second
unfoldable pub clock_at : List ℕ → Option ReadThree
clock_at t = two_at t >>= λ h. next_at colon h.1 >>= λ m. next_at colon m.1 >>= λ s. three_read h.0 m.0 s.0 s.1

unfoldable pub local_at : List ℕ → Option (LocalTime × List ℕ)
local_at t =
    day_at t >>= λ d. either_at capital_t small_t d.1 >>= λ r. clock_at r >>= λ c.
    Some (record { year = d.0.0; month = d.0.1; day = d.0.2; hour = c.0.0; minute = c.0.1; second = c.0.2 }, c.1)

abbrev pub ReadNumber : Type 0
ReadNumber = ℕ × List ℕ

abbrev pub add_front : ℕ → Option ReadNumber → Option ReadNumber
add_front n read = read >>= λ r. Some (n + r.0, r.1)

-- the digits at the front, of which the first counts the weight: none may follow the one that counts 1
abbrev pub next_digit : ℕ → ℕ → Option ReadNumber → Option ReadNumber
next_digit d weight more = if weight == 0 then None else add_front (d * weight) more

abbrev pub by_digit : Option ℕ → ℕ → List ℕ → Option ReadNumber → Option ReadNumber
by_digit None weight t more = Some (0, t)
by_digit (Some d) weight t more = next_digit d weight more

unfoldable pub nanos_from : ℕ → List ℕ → Option ReadNumber
nanos_from weight [] = Some (0, [])
nanos_from weight (x ∷ t) = by_digit (digit x) weight (x ∷ t) (nanos_from (weight / 10) t)

-- the same, where there is a digit
unfoldable pub nanos_at : List ℕ → Option ReadNumber
nanos_at [] = None
nanos_at (x ∷ t) = digit x >>= λ d. nanos_from first_weight (x ∷ t)

unfoldable pub second_fraction_at : List ℕ → Option ReadNumber
second_fraction_at [] = Some (0, [])
second_fraction_at (x ∷ t) = if x == full_stop then nanos_at t else Some (0, x ∷ t)

abbrev pub is_civil : ℕ → ℕ → ℕ → Bool
is_civil y m d = nat_le 1 y && (nat_le y 9999 && (nat_le 1 m && (nat_le m 12 && (nat_le 1 d && nat_le d (days_in_month (pos y) m)))))

abbrev pub is_clock : ℕ → ℕ → ℕ → Bool
is_clock h m s = nat_lt h 24 && (nat_lt m 60 && nat_lt s 60)

-- the value, where nothing is left
abbrev pub if_last : {A : Type 0} → A → List ℕ → Option A
if_last x [] = Some x
if_last x (c ∷ t) = None

-- hours and minutes, in seconds
unfoldable pub offset_at : List ℕ → Option ℕ
offset_at t = two_at t >>= λ h. next_at colon h.1 >>= λ m. if_last m.0 m.1 >>= λ n. if nat_lt h.0 24 && nat_lt n 60 then Some (h.0 * 3600 + n * 60) else None

-- how far the zone is ahead of UTC
unfoldable pub zone_of : Bool → List ℕ → Option ℤ
zone_of offsets [] = None
zone_of offsets (x ∷ t) =
    if (x == capital_z) || (x == small_z) then if_last (pos 0) t
    else (if offsets && (x == plus_sign) then (offset_at t >>= λ n. Some (pos n)) else (if offsets && (x == hyphen_minus) then (offset_at t >>= λ n. Some (neg_ℤ (pos n))) else None))

unfoldable pub moment_at : Bool → List ℕ → Option Moment
moment_at offsets t =
    local_at t >>= λ l. second_fraction_at l.1 >>= λ n. zone_of offsets n.1 >>= λ z.
    if is_civil l.0.year l.0.month l.0.day && is_clock l.0.hour l.0.minute l.0.second then Some (record { seconds = seconds_of l.0 -ℤ z; nanos = n.0 }) else None
