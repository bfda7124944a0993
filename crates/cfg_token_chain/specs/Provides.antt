-- What calls of bearer tokens leave of the world's journal and of what is kept.
use Rattle.std.specs.Prelude.{◌≡◌, List, Some}
use Rattle.cfg_world.specs.declared.devices.Devices.{Ghosts}
use Rattle.cfg_world.specs.Fits.{Pair}
use Rattle.cfg_world.specs.Grows.{Grows, Stays}
use Rattle.cfg_world.specs.Held.{Held}
use Rattle.cfg_kept.specs.Kinds.{Value, States}
use Rattle.cfg_kept.specs.KeptInquiry.{KeptInquiry, Reads, Begins, found_by, kept_after}
use Rattle.cfg_meta.specs.MemberParts.{Keeping}
use Rattle.cfg_meta.specs.Provides.{ProvidesByMembers, InterruptedMembers}
use Rattle.cfg_sso.specs.BearerTokens.{Bearer}
use Rattle.cfg_token_chain.specs.Members.{NamedAsked, name_in, IsTokenTree}
use Rattle.cfg_meta.specs.TokenAnswers.{token_rules}

-- ---- of one provider

module _ (tree : KeptInquiry Bearer) (Cause : List Value → List Pair → Bearer → Type 0) where
  -- A call of this tree found these values, has this journal, came to this answer, and keeps what the tree
  -- leaves. The answer has its cause.
  pub record IsTokenCall (old new : States) (found : List Value) (part : List Pair) (out : Bearer) : Type 0 where
    pub finds : found ≡ found_by tree old part
    pub reads : Reads tree found part out
    pub keeps : new ≡ kept_after tree old part
    pub cause : Cause found part out

  -- The journal grew by exactly the part of such a call.
  pub record ProvidesToken {D : Type 0} (d : Ghosts D) (old new : States) (found : List Value) (before later : Held D) (out : Bearer) : Type 0 where
    pub part : List Pair
    pub grows : Grows d part before later
    pub call : IsTokenCall old new found part out

-- It grew by the beginning of such a part. Each kept value is as the last finished holding left it.
pub record InterruptedToken {D : Type 0} (d : Ghosts D) (tree : KeptInquiry Bearer) (old new : States) (found : List Value) (before later : Held D) : Type 0 where
  pub part : List Pair
  pub stays : Stays d part before later
  pub begins : Begins tree (Some old) found part (Some new)

-- ---- of a chain over given members

-- The journal grew by exactly the parts of these members, in order, up to the first that was not passed
-- over, whose answer is the chain's.
abbrev pub ProvidesTokens : {D : Type 0} → Ghosts D → List NamedAsked → List Keeping → List Keeping → Held D → Held D → Bearer → Type 0
ProvidesTokens d members olds news before later out = ProvidesByMembers d token_rules name_in IsTokenTree members olds news before later out

-- It grew by the beginning of such parts.
abbrev pub InterruptedTokens : {D : Type 0} → Ghosts D → List NamedAsked → List Keeping → List Keeping → Held D → Held D → Type 0
InterruptedTokens d members olds news before later = InterruptedMembers d token_rules name_in IsTokenTree members olds news before later
