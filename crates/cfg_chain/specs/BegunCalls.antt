-- How far a call of the default chain has come.
use Rattle.std.specs.Prelude.{◌≡◌, List, Some}
use Rattle.cfg_world.specs.declared.ask.Question.{Question}
use Rattle.cfg_world.specs.Fits.{Pair}
use Rattle.cfg_kept.specs.Beginnings.{IsNext}
use Rattle.cfg_kept.specs.Kinds.{Value, States}
use Rattle.cfg_kept.specs.KeptInquiry.{Begins}
use Rattle.cfg_providers.specs.CustomSources.{Answer}
use Rattle.cfg_chain.specs.Members.{default_chain}
use Rattle.cfg_chain.specs.Provides.{IsCall}
use Rattle.cfg_chain.specs.Settings.{ChainSetting, Services, AreServices, setting}

-- A call of a default chain of this setting has begun: so far it found these values and has this journal,
-- over the services that the configuration names. Each kept value is as the last finished holding left it.
pub record IsBegunCall (over : ChainSetting) (old new : States) (found : List Value) (part : List Pair) : Type 0 where
  pub services : Services
  pub names : AreServices over services
  pub begins : Begins (default_chain (setting over services)) (Some old) found part (Some new)

-- The journal is that of a call that has begun.
abbrev pub HasBegun : ChainSetting → States → List Pair → Type 0
HasBegun over old part = (new : States) × (found : List Value) × IsBegunCall over old new found part

-- The journal is that of a call that came to its end.
abbrev pub HasEnded : ChainSetting → States → List Pair → Type 0
HasEnded over old part = (new : States) × (found : List Value) × (out : Answer) × IsCall over old new found part out

-- After this journal the call asks this question next, over the services that the configuration names.
pub record IsNextOfCall (over : ChainSetting) (old : States) (part : List Pair) (question : Question) : Type 0 where
  pub services : Services
  pub names : AreServices over services
  pub next : IsNext (default_chain (setting over services)) (Some old) part question

-- After this journal the call asks exactly one question next, and has not come to its end.
pub record CallAsksOne (over : ChainSetting) (old : States) (part : List Pair) : Type 0 where
  pub question : Question
  pub asked : IsNextOfCall over old part question
  pub alone : (other : Question) → IsNextOfCall over old part other → other ≡ question
  pub unfinished : HasEnded over old part → ⊥
