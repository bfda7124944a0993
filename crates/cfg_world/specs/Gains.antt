-- What is said of the stretch by which a journal grew.
use Rattle.std.specs.Prelude.{◌≡◌, List, ◌++◌}
use Rattle.cfg_world.specs.Fits.{Pair}

-- The journal grew by a stretch of which this holds.
pub record Gains (before later : List Pair) (holds : List Pair → Type 0) : Type 0 where
  pub part : List Pair
  pub grows : later ≡ before ++ part
  pub said : holds part
