-- How far a chain of inquiries has come.
use Rattle.std.specs.Prelude.{◌≡◌, List, Option}
use Rattle.cfg_world.specs.declared.ask.Question.{Question}
use Rattle.cfg_world.specs.Fits.{Pair}
use Rattle.cfg_world.specs.Inquiry.{Inquiry, AsksNext}
use Rattle.cfg_region.specs.Chains.{first_given}
use Rattle.cfg_region.specs.ChainParts.{AreParts}

module _ {R : Type 0} (trees : List (Inquiry (Option R))) (journal : List Pair) where
  -- The chain came to its end over this journal.
  abbrev pub HasEnded : Type 0
  HasEnded = (out : Option R) × AreParts trees journal out

  -- After this journal the chain asks exactly one question next, and has not come to its end.
  pub record AsksOne : Type 0 where
    pub question : Question
    pub asked : AsksNext (first_given trees) journal question
    pub alone : (other : Question) → AsksNext (first_given trees) journal other → other ≡ question
    pub unfinished : HasEnded → ⊥
