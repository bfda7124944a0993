-- A world as contracts see it.
use Rattle.std.specs.Prelude.{List}
use Rattle.cfg_world.specs.Fits.{Pair}

-- the devices, and what they were asked and answered
pub record Held (D : Type 0) : Type 0 where
  pub devices : D
  pub journal : List Pair
