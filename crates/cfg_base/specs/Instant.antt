-- The whole number that a moment stands for.
use Rattle.std.specs.Prelude.{ℕ, ℤ, pos, negsuc, ◌+ℤ◌, ◌*ℤ◌, Bool, int_lt}
use Rattle.cfg_base.specs.Moment.{Moment}

-- so many seconds, in nanoseconds
abbrev pub nanos_in : ℕ → ℤ
nanos_in seconds = pos seconds *ℤ pos 1000000000

-- the nanoseconds since the epoch
abbrev pub number : Moment → ℤ
number m = m.seconds *ℤ pos 1000000000 +ℤ pos m.nanos

-- the first moment of all: the least seconds of 64 bits, and no nanoseconds
abbrev pub first_number : ℤ
first_number = negsuc 9223372036854775807 *ℤ pos 1000000000

-- the last moment of all
abbrev pub last_number : ℤ
last_number = pos 9223372036854775807 *ℤ pos 1000000000 +ℤ pos 999999999

-- the first is more than so many seconds after the second
abbrev pub is_later_by : Moment → Moment → ℕ → Bool
is_later_by m other seconds = int_lt (number other +ℤ nanos_in seconds) (number m)
