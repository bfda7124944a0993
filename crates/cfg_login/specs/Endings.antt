-- What ends after a reading of the clock.
use Rattle.std.specs.Prelude.{Option, Some, None}
use Rattle.cfg_base.specs.Moment.{Moment}
use Rattle.cfg_token.specs.Readings as readings

-- There are such a reading and such an end, which is after it.
abbrev pub EndsAfter : Option Moment → Option Moment → Type 0
EndsAfter now None = ⊥
EndsAfter now (Some end) = readings.EndsAfter now end
