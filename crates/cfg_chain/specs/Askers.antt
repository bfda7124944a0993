-- Which member of a chain asks the question that a call stopped at.
use Rattle.std.specs.Prelude.{◌≡◌, ◌⊎◌, List, [], ◌∷◌, ◌++◌, Option, Some, IfSome, Result, Err}
use Rattle.cfg_world.specs.declared.ask.Question.{Question}
use Rattle.cfg_world.specs.declared.asking.Asking.{Ghosts}
use Rattle.cfg_world.specs.declared.asking.Stop.{Stop}
use Rattle.cfg_world.specs.declared.asking.Stop.TheVariants.{Open}
use Rattle.cfg_world.specs.Fits.{Pair}
use Rattle.cfg_kept.specs.Chains.{Chain, passed}
use Rattle.cfg_kept.specs.Holds.{Holdings}
use Rattle.cfg_kept.specs.KeptInquiry.{Runs, Asks}
use Rattle.cfg_kept.specs.Kinds.{Value, States}
use Rattle.cfg_chain.specs.declared.member.Member.{Member}
use Rattle.cfg_chain.specs.Members.{credentials_chain, default_members}
use Rattle.cfg_chain.specs.Settings.{ChainSetting, Services, AreServices, setting}

module _ {M V E : Type 0} (c : Chain M V E) where
  -- After these found values and this journal this one of the members asks this question next: those before it
  -- were passed over, each over its part, and behind their parts the question is the next one of its own tree.
  -- From the kept states old to the kept states new.
  abbrev pub IsAskedBy : List M → Option States → List Value → List Pair → Option M → Question → Option States → Type 0
  IsAskedBy [] old found journal who question new = ⊥
  IsAskedBy (member ∷ members) old found journal who question new =
      ((found_first : List Value) × (found_then : List Value) × (part : List Pair) × (rest : List Pair) × (middle : Option States) × (given : Result V E) × (e : E)
      × (found ≡ found_first ++ found_then) × (journal ≡ part ++ rest) × Runs (c.tree member) old found_first part given middle × (passed c given ≡ Some e)
      × IsAskedBy members middle found_then rest who question new)
      ⊎ ((who ≡ Some member) × Asks (c.tree member) old found journal question new)

  -- The journal grew by a part, and the found values by others, after which this member asks the question that is
  -- left open.
  pub record MemberAsks {A : Type 0} (a : Ghosts A) (members : List M) (old : A) (before : Holdings) (new : A) (later : Holdings) (who : Option M) : Type 0 where
    pub part : List Pair
    pub grows : a.journal new ≡ a.journal old ++ part
    pub found : List Value
    pub finds : later.found ≡ before.found ++ found
    pub asks : IfSome (a.open_question new) (λ q. IsAskedBy members before.kept found part who q later.kept)

-- The same of the default chain, over the services that the configuration names.
pub record DefaultMemberAsks {A : Type 0} (a : Ghosts A) (over : ChainSetting) (old : A) (before : Holdings) (new : A) (later : Holdings) (who : Option Member) : Type 0 where
  pub services : Services
  pub names : AreServices over services
  pub asks : MemberAsks (credentials_chain (setting over services)) a default_members old before new later who

-- where a call stopped at an open question
abbrev pub OnOpen : {R : Type 0} → Result R Stop → Type 0 → Type 0
OnOpen (Err Open) holds = holds
OnOpen _ holds = Unit {0}
