-- What a call of a chain over given members leaves of the world's journal.
use Rattle.std.specs.Prelude.{ℕ, List, Result}
use Rattle.cfg_world.specs.declared.devices.Devices.{Ghosts}
use Rattle.cfg_world.specs.Fits.{Pair}
use Rattle.cfg_world.specs.Grows.{Grows, Stays}
use Rattle.cfg_world.specs.Held.{Held}
use Rattle.cfg_kept.specs.KeptInquiry.{KeptInquiry}
use Rattle.cfg_meta.specs.AnswerRules.{AnswerRules}
use Rattle.cfg_meta.specs.MemberParts.{Keeping, AreMemberParts, AreBegunParts}

module _ {D M V E : Type 0} (d : Ghosts D) (rules : AnswerRules E) (name_of : M → List ℕ) (is_tree : M → KeptInquiry (Result V E) → Type 0) (members : List M) where
  -- The journal grew by exactly the parts of the members.
  pub record ProvidesByMembers (olds news : List Keeping) (before later : Held D) (out : Result V E) : Type 0 where
    pub part : List Pair
    pub grows : Grows d part before later
    pub parts : AreMemberParts rules name_of is_tree members olds news part out

  -- It grew by the beginning of such parts.
  pub record InterruptedMembers (olds news : List Keeping) (before later : Held D) : Type 0 where
    pub part : List Pair
    pub stays : Stays d part before later
    pub begun : AreBegunParts rules name_of is_tree members olds news part
