-- In whose part of a call's journal each entry stands.
use Rattle.std.specs.Prelude.{◌≡◌, ℕ, List, take, length, Bool, true, false, Option, Some, None, option_map, slice_get}
use Rattle.cfg_world.specs.declared.ask.Question.{Question}
use Rattle.cfg_world.specs.Fits.{Pair}
use Rattle.cfg_kept.specs.declared.kept.Kept.{Kept}
use Rattle.cfg_kept.specs.KeptStates.{states_of, kept_holdings}
use Rattle.cfg_kept.specs.Kinds.{Value, States}
use Rattle.cfg_providers.specs.CustomSources.{Answer}
use Rattle.cfg_chain.specs.declared.member.Member.{Member}
use Rattle.cfg_chain.specs.BegunCalls.{HasEnded}
use Rattle.cfg_chain.specs.Members.{name_of}
use Rattle.cfg_chain.specs.Provides.{IsCall}
use Rattle.cfg_chain.specs.Settings.{ChainSetting}
use Rattle.cfg_run.specs.Runs.{IsWaitingCall}
use Rattle.cfg_explain.specs.declared.verdict.Verdict.{Verdict}
use Rattle.cfg_explain.specs.declared.verdict.Verdict.TheVariants.{Yes, Outcome}

-- The entry at this place stands in the part of a member of this name: behind the entries before it, that member asks its
-- question.
pub record IsOwnedBy (over : ChainSetting) (old : States) (journal : List Pair) (at : ℕ) (name : List ℕ) : Type 0 where
  pub who : Member
  pub entry : Pair
  pub there : slice_get journal at ≡ Some entry
  pub new : States
  pub found : List Value
  pub asks : IsWaitingCall over old new found (take at journal) entry.0 (Some who)
  pub is : name_of who ≡ name

-- Each name is that of the member in whose part the entry of its place stands.
abbrev pub AreOwners : ChainSetting → States → List Pair → List (List ℕ) → Type 0
AreOwners over old journal names = (at : ℕ) (name : List ℕ) → slice_get names at ≡ Some name → IsOwnedBy over old journal at name

-- The journal is that of a call, which found these values and left this kept, and each entry has its owner's name; or it is
-- that of no call.
abbrev pub Owns : ChainSetting → States → States → List Value → List Pair → Option (List (List ℕ)) → Type 0
Owns over old new found journal (Some names) = ((out : Answer) × IsCall over old new found journal out) × (length names ≡ length journal) × AreOwners over old journal names
Owns over old new found journal None = HasEnded over old journal → ⊥

-- the same by what is kept
abbrev pub OwnsOn : ChainSetting → Kept → Kept → List Pair → Option (List (List ℕ)) → Type 0
OwnsOn over old new journal names = Owns over (states_of old) (states_of new) (kept_holdings new).found journal names

-- The name of the member that asks this question, where it is the one that is shown; none where it is not.
abbrev pub TellsOwner : Option Question → Option Member → Question → Option (List ℕ) → Type 0
TellsOwner shown member asked (Some name) = (shown ≡ Some asked) × (option_map name_of member ≡ Some name)
TellsOwner shown member asked None = shown ≡ Some asked → ⊥

-- whether a verdict is one on the journal of a call, to whatever outcome; on another journal it tells where that departs
-- from a call's, or is short or long
abbrev pub is_of_a_call : Verdict → Bool
is_of_a_call Yes = true
is_of_a_call Outcome = true
is_of_a_call _ = false
