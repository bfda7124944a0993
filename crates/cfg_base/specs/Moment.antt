-- A moment as contracts see it.
use Rattle.std.specs.Prelude.{ℕ, ℤ}

-- seconds since the epoch, of any sign, and nanoseconds that are added to them
pub record Moment : Type 0 where
  pub seconds : ℤ
  pub nanos : ℕ
