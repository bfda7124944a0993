-- The last reading of the clock.
use Rattle.std.specs.Prelude.{List, [], ◌∷◌, Option, Some, None}
use Rattle.cfg_base.specs.Moment.{Moment}
use Rattle.cfg_world.specs.declared.ask.Question.{Question}
use Rattle.cfg_world.specs.declared.ask.Question.TheVariants as question
use Rattle.cfg_world.specs.declared.ask.Answer.{Answer}
use Rattle.cfg_world.specs.Fits.{Pair}
use Rattle.cfg_world.specs.Leaves.{moment_of}

-- the last reading of the clock in a part, or else the one before it
abbrev pub reading_or : Option Moment → Question → Answer → Option Moment
reading_or before question.Now given = Some (moment_of given)
reading_or before _ given = before

abbrev pub last_reading_from : Option Moment → List Pair → Option Moment
last_reading_from before [] = before
last_reading_from before (e ∷ part) = last_reading_from (reading_or before e.0 e.1) part

abbrev pub last_reading : List Pair → Option Moment
last_reading part = last_reading_from None part
