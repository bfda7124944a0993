-- What is told of answers that are handed in by the kinds of their questions.
use Rattle.std.specs.Prelude.{◌≡◌, ◌<◌, ℕ, List, take, length, Option, Some, None, slice_get}
use Rattle.cfg_world.specs.declared.ask.Question.{Question}
use Rattle.cfg_world.specs.Fits.{Pair, Fits}
use Rattle.cfg_kept.specs.declared.kept.Kept.{Kept}
use Rattle.cfg_kept.specs.KeptStates.{states_of, kept_holdings}
use Rattle.cfg_kept.specs.Kinds.{Value, States}
use Rattle.cfg_providers.specs.CustomSources.{Answer}
use Rattle.cfg_chain.specs.BegunCalls.{HasEnded, IsNextOfCall}
use Rattle.cfg_chain.specs.Provides.{IsCall}
use Rattle.cfg_chain.specs.Settings.{ChainSetting}
use Rattle.cfg_explain.specs.Answerings.{HasAnswers, AlikeUntil}
use Rattle.cfg_explain.specs.Kinds.{kind_of}
use Rattle.cfg_explain.specs.declared.answering.Answering.{Answering}
use Rattle.cfg_explain.specs.declared.answering.Replay.{Replay}
use Rattle.cfg_explain.specs.declared.answering.Replay.TheVariants.{Whole, Other, Short, Long}

-- These are the answers to the questions of a call so far, and it asks one of this kind next.
pub record AreAnswersBefore (over : ChainSetting) (old : States) (answers : List Answering) (question : Question) : Type 0 where
  pub journal : List Pair
  pub answered : HasAnswers journal answers
  pub next : IsNextOfCall over old journal question

-- Behind the answers before this place the call asks a question of this kind, and the answer there is of another kind, or
-- does not fit the question.
pub record WantsOther (over : ChainSetting) (old : States) (answers : List Answering) (at : ℕ) (wanted : List ℕ) : Type 0 where
  pub question : Question
  pub before : AreAnswersBefore over old (take at answers) question
  pub kind : kind_of question ≡ wanted
  pub handed : Answering
  pub there : slice_get answers at ≡ Some handed
  pub other : handed.kind ≡ wanted → Fits question handed.answer → ⊥

-- What is told of these answers. Behind a whole call these values were found, and new is kept.
abbrev pub Tells : ChainSetting → States → States → List Value → List Answering → Replay → Type 0
Tells over old new found answers (Whole journal out) = HasAnswers journal answers × IsCall over old new found journal out
Tells over old new found answers (Other at wanted) = WantsOther over old answers at wanted
Tells over old new found answers (Short wanted) = (question : Question) × AreAnswersBefore over old answers question × (kind_of question ≡ wanted)
Tells over old new found answers (Long at) = (at < length answers) × ((journal : List Pair) × HasAnswers journal (take at answers) × HasEnded over old journal)

-- There is a call that is answered so, of this journal and with this outcome.
abbrev pub IsAnsweredCall : ChainSetting → States → List Answering → List Pair → Answer → Type 0
IsAnsweredCall over old answers journal out = HasAnswers journal answers × ((new : States) × (found : List Value) × IsCall over old new found journal out)

-- What is told by what stands at the first place at which a call's journal has not these answers, and where there is
-- nothing, by the call.
abbrev pub IsToldOf : List Pair → Option Pair → Option Answering → ℕ → Answer → Replay → Type 0
IsToldOf journal (Some e) (Some a) at out told = told ≡ Other at (kind_of e.0)
IsToldOf journal (Some e) None at out told = told ≡ Short (kind_of e.0)
IsToldOf journal None (Some a) at out told = told ≡ Long at
IsToldOf journal None None at out told = told ≡ Whole journal out

-- what is told of answers that were handed in, by the journal that a call made over them and by what it came to
abbrev pub IsToldBy : List Pair → List Answering → Answer → Replay → Type 0
IsToldBy journal answers out told = (at : ℕ) × AlikeUntil journal answers at × IsToldOf journal (slice_get journal at) (slice_get answers at) at out told

-- what is told, by what is kept
abbrev pub TellsOn : ChainSetting → Kept → Kept → List Answering → Replay → Type 0
TellsOn over old new answers told = Tells over (states_of old) (states_of new) (kept_holdings new).found answers told
