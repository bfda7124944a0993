-- What a call that follows a member, or a chain of them, leaves of the journal and of what is kept.
use Rattle.std.specs.Prelude.{◌≡◌, ◌⊎◌, ℕ, List, ◌++◌, IfSome, IsSome, Result, Ok, Err}
use Rattle.cfg_world.specs.declared.asking.Asking.{Ghosts}
use Rattle.cfg_world.specs.declared.asking.Stop.{Stop}
use Rattle.cfg_world.specs.declared.asking.Stop.TheVariants.{OutOfMemory, Open}
use Rattle.cfg_world.specs.Fits.{Pair, EachFits}
use Rattle.cfg_world.specs.Faults.{Counted}
use Rattle.cfg_world.specs.Asked.{Same, StandsOn}
use Rattle.cfg_kept.specs.KeptInquiry.{KeptInquiry}
use Rattle.cfg_kept.specs.Holds.{Holdings, HoldsFollows}
use Rattle.cfg_meta.specs.AnswerRules.{AnswerRules}
use Rattle.cfg_meta.specs.MemberParts.{Keeping, AreMemberParts, AskNext, AreBegunParts}

-- ---- one member

-- A call follows a tree of the member; or memory ran out before it was known which, and nothing was
-- asked.
abbrev pub FollowsMember : {A R : Type 0} → Ghosts A → (KeptInquiry R → Type 0) → A → Holdings → A → Holdings → Result R Stop → Type 0
FollowsMember {R = R} a is_tree old before new later out =
    ((out ≡ Err OutOfMemory) × (new ≡ old) × (later ≡ before))
    ⊎ ((tree : KeptInquiry R) × is_tree tree × HoldsFollows a tree old before new later out)

-- ---- all members

-- The journal grew by this part.
pub record GrewBy {A : Type 0} (a : Ghosts A) (part : List Pair) (old new : A) : Type 0 where
  pub grows : a.journal new ≡ a.journal old ++ part
  pub fits : EachFits part
  pub made : a.made_of new ≡ a.made_of old
  pub same : Same (a.allows old) (a.allows new)
  pub counted : Counted part (a.faults old) (a.faults new)

module _ {A M V E : Type 0} (a : Ghosts A) (rules : AnswerRules E) (name_of : M → List ℕ) (is_tree : M → KeptInquiry (Result V E) → Type 0) (members : List M) where
  -- It grew by the parts of the members, over which the chain came to this outcome.
  pub record MembersEnd (olds news : List Keeping) (old new : A) (out : Result V E) : Type 0 where
    pub part : List Pair
    pub grew : GrewBy a part old new
    pub stands : StandsOn (a.stands old) (a.stands new) part
    pub parts : AreMemberParts rules name_of is_tree members olds news part out

  -- It grew by those after which the question that is left open is asked.
  pub record MembersWait (olds news : List Keeping) (old new : A) : Type 0 where
    pub part : List Pair
    pub grew : GrewBy a part old new
    pub stands : StandsOn (a.stands old) (a.stands new) part
    pub asks : IfSome (a.open_question new) (λ question. AskNext rules name_of is_tree members olds news part question)
    pub is_open : IsSome (a.open_question new)

  -- It grew by the beginning of such parts, and memory ran out.
  pub record MembersBreak (olds news : List Keeping) (old new : A) : Type 0 where
    pub part : List Pair
    pub grew : GrewBy a part old new
    pub begun : AreBegunParts rules name_of is_tree members olds news part

  -- how a call stops: at an open question, or out of memory
  abbrev pub MembersHalt : List Keeping → List Keeping → A → A → Stop → Type 0
  MembersHalt olds news old new Open = MembersWait olds news old new
  MembersHalt olds news old new OutOfMemory = MembersBreak olds news old new

  -- a call that answers what the chain over these members does
  abbrev pub FollowsMembers : List Keeping → List Keeping → A → A → Result (Result V E) Stop → Type 0
  FollowsMembers olds news old new (Ok out) = MembersEnd olds news old new out
  FollowsMembers olds news old new (Err stop) = MembersHalt olds news old new stop
