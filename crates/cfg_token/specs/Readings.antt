-- What the readings of the clock in a section say of its token.
use Rattle.std.specs.Prelude.{◌≡◌, List, [], ◌∷◌, true, Option, Some, None}
use Rattle.cfg_base.specs.Moment.{Moment}
use Rattle.cfg_world.specs.Fits.{Pair}
use Rattle.cfg_world.specs.Leaves.{moment_of}
use Rattle.cfg_token.specs.Rules.{Rules}
use Rattle.cfg_token.specs.Moments.{is_before}
use Rattle.cfg_token.specs.Decisions.{outlasts_buffer}

-- There is such a reading, and this end is after it.
abbrev pub EndsAfter : Option Moment → Moment → Type 0
EndsAfter None end = ⊥
EndsAfter (Some now) end = is_before now end ≡ true

-- A kept token is not to be refreshed yet by the first reading, and is handed out: no file is looked for.
abbrev pub IsHit : {T E : Type 0} → Rules T E → Option T → List Pair → Type 0
IsHit t (Some token) (first ∷ part) = outlasts_buffer t token (moment_of first.1) ≡ true
IsHit t (Some token) [] = ⊥
IsHit t None part = ⊥
