-- The text of a date and a time (RFC 3339, section 5.6), and the moment that it stands for.
use Rattle.std.specs.Prelude.{◌≡◌, ℕ, ◌+◌, ◌-◌, ◌*◌, ◌/◌, ◌%◌, ◌<◌, ◌≤◌, List, [], ◌∷◌, ◌++◌, length, ℤ, pos, negsuc, neg_ℤ, ◌+ℤ◌, ◌-ℤ◌, ◌*ℤ◌, ◌<ℤ◌, ◌⊎◌}
use Rattle.jiff_core.specs.Calendar.{days_from_civil, days_in_month}
use Rattle.cfg_base.specs.Moment.{Moment}
use Rattle.cfg_json.specs.Ascii.{plus_sign, hyphen_minus, full_stop, digit_zero, colon, capital_t, capital_z, small_t, small_z}
use Rattle.cfg_json.specs.Numbers.{AreDigits}
use Rattle.cfg_json.specs.declared.dates.local.LocalTime.{LocalTime}

-- two digits, three, and four
abbrev pub two : ℕ → List ℕ
two n = (digit_zero + n / 10) ∷ (digit_zero + n % 10) ∷ []

abbrev pub three : ℕ → List ℕ
three n = (digit_zero + n / 100) ∷ (digit_zero + n / 10 % 10) ∷ (digit_zero + n % 10) ∷ []

abbrev pub four : ℕ → List ℕ
four n = two (n / 100) ++ two (n % 100)

-- a day of the years 1 to 9999
pub record IsCommonDate (year month day : ℕ) : Type 0 where
  pub year_from : 1 ≤ year
  pub year_to : year ≤ 9999
  pub month_from : 1 ≤ month
  pub month_to : month ≤ 12
  pub day_from : 1 ≤ day
  pub day_to : day ≤ days_in_month (pos year) month

-- the calendar and the clock have it
pub record Exists (l : LocalTime) : Type 0 where
  pub date : IsCommonDate l.year l.month l.day
  pub hour : l.hour < 24
  pub minute : l.minute < 60
  pub second : l.second < 60

-- a date and a time of day, with the character between them and what follows
unfoldable pub spelled : LocalTime → ℕ → List ℕ → List ℕ
spelled l mark t = four l.year ++ (hyphen_minus ∷ (two l.month ++ (hyphen_minus ∷ (two l.day ++ (mark ∷ (two l.hour ++ (colon ∷ (two l.minute ++ (colon ∷ (two l.second ++ t))))))))))

-- the seconds since 1970 if it were in UTC
unfoldable pub seconds_of : LocalTime → ℤ
seconds_of l = days_from_civil (pos l.year) l.month l.day *ℤ pos 86400 +ℤ pos (l.hour * 3600 + l.minute * 60 + l.second)

-- what the digits behind the point stand for: the first one counts the weight, and each a tenth of the one before
unfoldable pub fraction_value : ℕ → List ℕ → ℕ
fraction_value weight [] = 0
fraction_value weight (d ∷ ds) = (d - digit_zero) * weight + fraction_value (weight / 10) ds

abbrev pub first_weight : ℕ
first_weight = 100000000

-- nothing, or a point and one to nine digits: so many nanoseconds
abbrev pub IsSecondFraction : List ℕ → ℕ → Type 0
IsSecondFraction [] nanos = nanos ≡ 0
IsSecondFraction (x ∷ ds) nanos = (x ≡ full_stop) × AreDigits ds × (length ds ≤ 9) × (nanos ≡ fraction_value first_weight ds)

-- UTC, which is no seconds ahead of itself
abbrev pub IsZulu : List ℕ → ℤ → Type 0
IsZulu zone offset = ((zone ≡ capital_z ∷ []) ⊎ (zone ≡ small_z ∷ [])) × (offset ≡ pos 0)

-- hours and minutes ahead of UTC, or behind it
pub record IsNumericOffset (zone : List ℕ) (offset : ℤ) : Type 0 where
  pub sign : ℕ
  pub hour : ℕ
  pub minute : ℕ
  pub is : zone ≡ sign ∷ (two hour ++ colon ∷ two minute)
  pub is_hour : hour < 24
  pub is_minute : minute < 60
  pub is_offset : ((sign ≡ plus_sign) × (offset ≡ pos (hour * 3600 + minute * 60))) ⊎ ((sign ≡ hyphen_minus) × (offset ≡ neg_ℤ (pos (hour * 3600 + minute * 60))))

abbrev pub IsOffset : List ℕ → ℤ → Type 0
IsOffset zone offset = IsZulu zone offset ⊎ IsNumericOffset zone offset

-- a text of a moment, whose zone is of a kind
pub record IsTimeText (Zone : List ℕ → ℤ → Type 0) (text : List ℕ) (m : Moment) : Type 0 where
  pub local : LocalTime
  pub mark : ℕ
  pub fraction : List ℕ
  pub zone : List ℕ
  pub offset : ℤ
  pub is : text ≡ spelled local mark (fraction ++ zone)
  pub exists : Exists local
  pub is_mark : (mark ≡ capital_t) ⊎ (mark ≡ small_t)
  pub is_fraction : IsSecondFraction fraction m.nanos
  pub is_zone : Zone zone offset
  pub is_seconds : m.seconds ≡ seconds_of local -ℤ offset

-- in UTC
abbrev pub IsDateText : List ℕ → Moment → Type 0
IsDateText = IsTimeText IsZulu

-- in UTC or with an offset
abbrev pub IsOffsetDateText : List ℕ → Moment → Type 0
IsOffsetDateText = IsTimeText IsOffset

-- outside the years 1 to 9999: before 0001-01-01T00:00:00Z, or after 9999-12-31T23:59:59Z
abbrev pub IsOutside : ℤ → Type 0
IsOutside seconds = (seconds <ℤ negsuc 62135596799) ⊎ (pos 253402300799 <ℤ seconds)

-- nothing where there are no nanoseconds; else a point and digits that no zero ends
abbrev pub IsShortFraction : List ℕ → ℕ → Type 0
IsShortFraction fraction nanos = ((fraction ≡ []) × (nanos ≡ 0)) ⊎ ((0 < nanos) × IsSecondFraction fraction nanos × ((front : List ℕ) → fraction ≡ front ++ digit_zero ∷ [] → ⊥))

-- the text that is written for a moment
pub record IsWrittenDate (text : List ℕ) (m : Moment) : Type 0 where
  pub local : LocalTime
  pub fraction : List ℕ
  pub is : text ≡ spelled local capital_t (fraction ++ capital_z ∷ [])
  pub exists : Exists local
  pub is_fraction : IsShortFraction fraction m.nanos
  pub is_seconds : m.seconds ≡ seconds_of local
