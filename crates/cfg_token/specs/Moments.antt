-- Moments some seconds apart, over numbers without bound.
use Rattle.std.specs.Prelude.{ℕ, ◌+ℤ◌, Bool, true, not, int_lt, Option, Some, None}
use Rattle.cfg_base.specs.Moment.{Moment}
use Rattle.cfg_base.specs.Instant.{number, nanos_in}

-- the first is before the second
abbrev pub is_before : Moment → Moment → Bool
is_before a b = int_lt (number a) (number b)

-- how many seconds before its end a token is refreshed
abbrev pub buffer_seconds : ℕ
buffer_seconds = 300

-- how many seconds have to lie between two attempts at a new token
abbrev pub seconds_between_attempts : ℕ
seconds_between_attempts = 30

-- an attempt may be made: there was none before, or the last one is long enough ago
abbrev pub may_attempt : Option Moment → Moment → Bool
may_attempt None now = true
may_attempt (Some last) now = not (int_lt (number now) (number last +ℤ nanos_in seconds_between_attempts))
