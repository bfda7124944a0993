-- What is said of a journal and of an outcome that are handed in.
use Rattle.std.specs.Prelude.{◌≡◌, ◌≢◌, ◌<◌, ℕ, List, take, length, Bool, true, false, Option, Some, None, slice_get}
use Rattle.cfg_world.specs.declared.ask.Question.{Question}
use Rattle.cfg_world.specs.Fits.{Pair}
use Rattle.cfg_kept.specs.declared.kept.Kept.{Kept}
use Rattle.cfg_kept.specs.KeptStates.{states_of, kept_holdings}
use Rattle.cfg_kept.specs.Kinds.{Value, States}
use Rattle.cfg_providers.specs.CustomSources.{Answer}
use Rattle.cfg_chain.specs.BegunCalls.{HasEnded, IsNextOfCall}
use Rattle.cfg_chain.specs.Provides.{IsCall}
use Rattle.cfg_chain.specs.Settings.{ChainSetting}
use Rattle.cfg_explain.specs.Alike.{aside}
use Rattle.cfg_explain.specs.Journals.{AskAlikeUntil}
use Rattle.cfg_explain.specs.declared.verdict.Verdict.{Verdict}
use Rattle.cfg_explain.specs.declared.verdict.Verdict.TheVariants.{Yes, Other, Short, Long, Outcome}

-- A call of the chain found these values, has this journal, and left this kept; it came to this outcome, the features of
-- credentials aside.
abbrev pub IsCallTo : ChainSetting → States → States → List Value → List Pair → Answer → Type 0
IsCallTo over old new found journal out = (given : Answer) × IsCall over old new found journal given × (aside given ≡ aside out)

-- The journal is that of a call, which came to another outcome.
pub record IsCallToAnother (over : ChainSetting) (old : States) (journal : List Pair) (out : Answer) : Type 0 where
  pub new : States
  pub found : List Value
  pub given : Answer
  pub call : IsCall over old new found journal given
  pub other : aside given ≢ aside out

-- Behind the entries before this place the call asks this question, and the entry there has another.
pub record AsksOther (over : ChainSetting) (old : States) (journal : List Pair) (at : ℕ) (wanted : Question) : Type 0 where
  pub entry : Pair
  pub there : slice_get journal at ≡ Some entry
  pub next : IsNextOfCall over old (take at journal) wanted
  pub other : entry.0 ≢ wanted

-- What a verdict says of a journal and of an outcome. After a yes these values were found, and new is kept.
abbrev pub Judges : ChainSetting → States → States → List Value → List Pair → Answer → Verdict → Type 0
Judges over old new found journal out Yes = IsCallTo over old new found journal out
Judges over old new found journal out (Other at wanted) = AsksOther over old journal at wanted
Judges over old new found journal out (Short wanted) = IsNextOfCall over old journal wanted
Judges over old new found journal out (Long at) = (at < length journal) × HasEnded over old (take at journal)
Judges over old new found journal out Outcome = IsCallToAnother over old journal out

-- The verdict by what stands at the first place at which a call's journal and the one that was handed in do not ask the
-- same, and where there is nothing, by whether both came to the same.
abbrev pub IsSaidOf : Option Pair → Option Pair → ℕ → Bool → Verdict → Type 0
IsSaidOf (Some e) (Some f) at is_alike verdict = verdict ≡ Other at e.0
IsSaidOf (Some e) None at is_alike verdict = verdict ≡ Short e.0
IsSaidOf None (Some f) at is_alike verdict = verdict ≡ Long at
IsSaidOf None None at true verdict = verdict ≡ Yes
IsSaidOf None None at false verdict = verdict ≡ Outcome

-- the verdict on a journal that was handed in, by the one that a call made over its answers
abbrev pub IsSaidBy : List Pair → List Pair → Bool → Verdict → Type 0
IsSaidBy made handed is_alike verdict = (at : ℕ) × AskAlikeUntil made handed at × IsSaidOf (slice_get made at) (slice_get handed at) at is_alike verdict

-- what a verdict says, by what is kept
abbrev pub JudgesOn : ChainSetting → Kept → Kept → List Pair → Answer → Verdict → Type 0
JudgesOn over old new journal out verdict = Judges over (states_of old) (states_of new) (kept_holdings new).found journal out verdict
