-- How far a run of the default chain is.
use Rattle.std.specs.Prelude.{◌≡◌, List, [], Option, Some, None, IsSome}
use Rattle.cfg_world.specs.declared.ask.Question.{Question}
use Rattle.cfg_world.specs.Fits.{Pair}
use Rattle.cfg_kept.specs.Kinds.{Value, States}
use Rattle.cfg_kept.specs.KeptInquiry.{Asks as AsksThen, Begins}
use Rattle.cfg_providers.specs.CustomSources.{Answer}
use Rattle.cfg_chain.specs.profile.Plans.{key_of}
use Rattle.cfg_chain.specs.declared.member.Member.{Member}
use Rattle.cfg_chain.specs.Askers.{IsAskedBy}
use Rattle.cfg_chain.specs.Members.{credentials_chain, default_chain, default_members}
use Rattle.cfg_chain.specs.Provides.{IsCall}
use Rattle.cfg_chain.specs.Settings.{ChainSetting, Services, AreServices, setting}
use Rattle.cfg_run.specs.CallSoFar.{CallSoFar}
use Rattle.cfg_run.specs.declared.next.Next.{Next}
use Rattle.cfg_run.specs.declared.next.Next.TheVariants.{Asks, Gives}
use Rattle.cfg_run.specs.declared.run.Step.{Step}
use Rattle.cfg_run.specs.declared.run.Step.TheVariants.{Pending, Ready}

-- A call of a default chain of this setting waits: it found these values, and after this journal it asks this
-- question next, over the services that the configuration names, and this member of the chain is the one that asks
-- it. Each kept value is as the last finished holding left it.
pub record IsWaitingCall (over : ChainSetting) (old new : States) (found : List Value) (part : List Pair) (question : Question) (member : Option Member) : Type 0 where
  pub services : Services
  pub names : AreServices over services
  pub asks : AsksThen (default_chain (setting over services)) (Some old) found part question (Some new)
  pub asker : IsAskedBy (credentials_chain (setting over services)) default_members (Some old) found part member question (Some new)

-- Where no question is shown, nothing was asked, found or left; the one that is shown is the one that the call
-- asks next.
abbrev pub IsUnderWayAt : ChainSetting → CallSoFar → Option Question → Type 0
IsUnderWayAt over s None = (s.asked ≡ []) × (s.found ≡ []) × (s.kept ≡ s.base)
IsUnderWayAt over s (Some question) = IsWaitingCall over s.base s.kept s.found s.asked question s.member

-- The run gave no answer yet, and what is kept is that of a chain with this key.
abbrev pub IsUnderWay : ChainSetting → CallSoFar → Type 0
IsUnderWay over s = (s.key ≡ key_of over.configuration) × IsUnderWayAt over s s.question

-- What a poll answers: a question is shown, which is the next one; or none is shown, and what was asked is the
-- journal of a whole call, which came to this outcome.
abbrev pub ComesTo : ChainSetting → CallSoFar → Step → Type 0
ComesTo over s Pending = IsSome s.question × IsUnderWay over s
ComesTo over s (Ready out) = (s.question ≡ None) × IsCall over s.base s.kept s.found s.asked out

-- ---- a walk

-- Whatever services the configuration names, the journal is that of a call that has begun.
abbrev pub HasBegun : ChainSetting → States → List Pair → Type 0
HasBegun over old part = (services : Services) → AreServices over services →
    (found : List Value) × (new : Option States) × Begins (default_chain (setting over services)) (Some old) found part new

-- What comes after this journal: the question that the call asks next, by this member, or its outcome.
abbrev pub ComesNext : ChainSetting → States → States → List Value → List Pair → Option Member → Next Answer → Type 0
ComesNext over old new found part member (Asks question) = IsWaitingCall over old new found part question member
ComesNext over old new found part member (Gives out) = IsCall over old new found part out

-- the question that is shown then, and what the poll answers
abbrev pub question_of : Next Answer → Option Question
question_of (Asks question) = Some question
question_of (Gives out) = None

abbrev pub step_of : Next Answer → Step
step_of (Asks question) = Pending
step_of (Gives out) = Ready out
