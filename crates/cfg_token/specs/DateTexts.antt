-- The text of a moment's date, as a function of the moment.
use Rattle.std.specs.Prelude.{ℕ, zero, suc, ◌+◌, ◌-◌, ◌/◌, ◌%◌, ℤ, pos, negsuc, ◌+ℤ◌, List, ◌||◌, cond, Bool, Option, Some, None, nat_le, int_lt, unsigned_abs}
use Rattle.jiff_core.specs.Calendar.{day_count}
use Rattle.cfg_base.specs.Moment.{Moment}
use Rattle.cfg_json.specs.declared.dates.local.LocalTime.{LocalTime}
use Rattle.cfg_json.specs.WritingDates.{date_text}

-- the last of the first years that begins at or before the day, which is counted from the calendar's first one
unfoldable pub year_at : ℕ → ℕ → ℕ
year_at zero day = zero
year_at (suc n) day = cond (nat_le (day_count (pos (suc n)) 1 1) day) (suc n) (year_at n day)

-- the last of the first months of a year that begins at or before the day
unfoldable pub month_at : ℕ → ℕ → ℕ → ℕ
month_at year zero day = zero
month_at year (suc n) day = cond (nat_le (day_count (pos year) (suc n) 1) day) (suc n) (month_at year n day)

-- a day, and so many seconds of it
abbrev pub local_on : ℕ → ℕ → ℕ → ℕ → LocalTime
local_on year month day time = record {
  year = year;
  month = month;
  day = day - day_count (pos year) month 1 + 1;
  hour = time / 3600;
  minute = time / 60 % 60;
  second = time % 60;
}

abbrev pub local_of_count : ℕ → ℕ → LocalTime
local_of_count day time = local_on (year_at 9999 day) (month_at (year_at 9999 day) 12 day) day time

-- The date and the time of day of so many seconds since 1970. The calendar's first day is 4371953 days before.
abbrev pub count_of : ℤ → ℕ
count_of seconds = unsigned_abs (seconds +ℤ pos 377736739200)

unfoldable pub local_in : ℤ → LocalTime
local_in seconds = local_of_count (count_of seconds / 86400) (count_of seconds % 86400)

-- outside the years 1 to 9999
abbrev pub is_outside : ℤ → Bool
is_outside seconds = int_lt seconds (negsuc 62135596799) || int_lt (pos 253402300799) seconds

-- the text of a moment's date, where it has one
unfoldable pub date_of : Moment → Option (List ℕ)
date_of m = cond (is_outside m.seconds) None (Some (date_text (local_in m.seconds) m.nanos))
