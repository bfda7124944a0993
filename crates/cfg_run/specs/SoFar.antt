-- What was asked so far.
use Rattle.std.specs.Prelude.{List, Option}
use Rattle.cfg_world.specs.declared.ask.Question.{Question}
use Rattle.cfg_world.specs.Fits.{Pair}

-- the receipts that were handed in, in order, and the question that is shown, if one is
pub record AskedSoFar : Type 0 where
  pub asked : List Pair
  pub question : Option Question
