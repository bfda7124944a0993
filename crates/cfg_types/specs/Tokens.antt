-- Bearer tokens as contracts see them.
use Rattle.std.specs.Prelude.{ℕ, List, Option}
use Rattle.cfg_base.specs.Moment.{Moment}

-- a token's text and when it expires
pub record BearerToken : Type 0 where
  pub token : List ℕ
  pub expiry : Option Moment
