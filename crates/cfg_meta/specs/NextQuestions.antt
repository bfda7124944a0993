-- How far a call of a chain over given members is.
use Rattle.std.specs.Prelude.{◌≡◌, ℕ, List, Result}
use Rattle.cfg_world.specs.declared.ask.Question.{Question}
use Rattle.cfg_world.specs.Fits.{Pair}
use Rattle.cfg_kept.specs.KeptInquiry.{KeptInquiry}
use Rattle.cfg_meta.specs.AnswerRules.{AnswerRules}
use Rattle.cfg_meta.specs.MemberParts.{Keeping, AreMemberParts, AskNext}

module _ {M V E : Type 0} (rules : AnswerRules E) (name_of : M → List ℕ) (is_tree : M → KeptInquiry (Result V E) → Type 0) where
  -- The part is that of a call that came to its end.
  abbrev pub HasEnded : List M → List Keeping → List Pair → Type 0
  HasEnded members olds part = (news : List Keeping) × (out : Result V E) × AreMemberParts rules name_of is_tree members olds news part out

  -- Behind this part a call asks this question next.
  abbrev pub IsNextOf : List M → List Keeping → List Pair → Question → Type 0
  IsNextOf members olds part question = (news : List Keeping) × AskNext rules name_of is_tree members olds news part question

  -- Behind this part a call asks exactly one question next, and has not come to its end.
  pub record AsksOne (members : List M) (olds : List Keeping) (part : List Pair) : Type 0 where
    pub question : Question
    pub asked : IsNextOf members olds part question
    pub alone : (other : Question) → IsNextOf members olds part other → other ≡ question
    pub unfinished : HasEnded members olds part → ⊥
