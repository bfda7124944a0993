-- A verdict by the first place at which two journals do not ask the same is right.
use Rattle.std.proofs.Common.{◌≡◌, ◌↔◌, ℕ, List, map, take, Bool, true, false, Option, Some, None, refl, sym, ◌∙◌, subst}
use Rattle.std.specs.Prelude.{slice_get, IsTrue}
use Rattle.cfg_world.specs.Fits.{Pair, EachFits}
use Rattle.cfg_world.specs.Agreeing.{AnswerAlike}
use Rattle.cfg_world.specs.Handed.{GivenFrom}
use Rattle.cfg_kept.specs.Kinds.{Value, States}
use Rattle.cfg_providers.specs.CustomSources.{Answer}
use Rattle.cfg_chain.specs.BegunCalls.{IsNextOfCall}
use Rattle.cfg_chain.specs.Provides.{IsCall}
use Rattle.cfg_chain.specs.Settings.{ChainSetting}
use Rattle.cfg_explain.specs.Alike.{aside}
use Rattle.cfg_explain.specs.Journals.{DoNotAskAlike, AskAlikeUntil}
use Rattle.cfg_explain.specs.Verdicts.{Judges, IsSaidOf}
use Rattle.cfg_explain.specs.declared.verdict.Verdict.{Verdict}
use Rattle.cfg_explain.proofs.ChainTrees.{call_asks}
use Rattle.cfg_explain.proofs.HandedAnswers.{handed_alike}
use Rattle.cfg_explain.proofs.JournalSteps.{cut_at, whole_at, fronts}

not_true : false ≡ true → ⊥
not_true h = cc

module _ (over : ChainSetting) (old new : States) (found : List Value) (made journal : List Pair) (given out : Answer) (at : ℕ)
    (call : IsCall over old new found made given) (alike : AnswerAlike made journal) (until : AskAlikeUntil made journal at) where
  front : take at made ≡ take at journal
  front = fronts at made journal alike until.same

  next_at : (e : Pair) → slice_get made at ≡ Some e → IsNextOfCall over old (take at journal) e.0
  next_at e h =
      let c = cut_at at made e h in
      subst (λ j. IsNextOfCall over old j e.0) front (call_asks over old new found (take at made) e c.rest given (subst (λ j. IsCall over old new found j given) c.is call))

  -- where nothing more is asked, what was handed in begins with the whole call
  whole : slice_get made at ≡ None → IsCall over old new found (take at journal) given
  whole h = subst (λ j. IsCall over old new found j given) (sym (whole_at at made h) ∙ front) call

  judges_at : (one other : Option Pair) (is_alike : Bool) (verdict : Verdict) → slice_get made at ≡ one → slice_get journal at ≡ other → DoNotAskAlike one other → (IsTrue is_alike ↔ (aside given ≡ aside out)) →
      IsSaidOf one other at is_alike verdict → Judges over old new found journal out verdict
  judges_at (Some e) (Some f) is_alike verdict h k ends same said =
      subst (Judges over old new found journal out) (sym said) (record { entry = f; there = k; next = next_at e h; other = λ asks. ends (sym asks) })
  judges_at (Some e) None is_alike verdict h k ends same said =
      subst (Judges over old new found journal out) (sym said) (subst (λ j. IsNextOfCall over old j e.0) (whole_at at journal k) (next_at e h))
  judges_at None (Some f) is_alike verdict h k ends same said =
      subst (Judges over old new found journal out) (sym said) ((cut_at at journal f k).lt, (new, found, given, whole h))
  judges_at None None true verdict h k ends same said =
      subst (Judges over old new found journal out) (sym said) (given, subst (λ j. IsCall over old new found j given) (whole_at at journal k) (whole h), same.0 refl)
  judges_at None None false verdict h k ends same said =
      subst (Judges over old new found journal out) (sym said)
      (record { new = new; found = found; given = given; call = subst (λ j. IsCall over old new found j given) (whole_at at journal k) (whole h); other = λ is. not_true (same.1 is) })

  pub judges : (is_alike : Bool) (verdict : Verdict) → (IsTrue is_alike ↔ (aside given ≡ aside out)) → IsSaidOf (slice_get made at) (slice_get journal at) at is_alike verdict → Judges over old new found journal out verdict
  judges is_alike verdict same said = judges_at (slice_get made at) (slice_get journal at) is_alike verdict refl refl until.ends same said

-- the same of a call over devices that were handed the answers of the journal
pub judged : (over : ChainSetting) (old new : States) (found : List Value) (part made journal : List Pair) (given out : Answer) (at : ℕ) (is_alike : Bool) (verdict : Verdict) →
    IsCall over old new found part given → made ≡ part → EachFits journal → GivenFrom (map (λ e. e.1) journal) 0 part → AskAlikeUntil made journal at → (IsTrue is_alike ↔ (aside given ≡ aside out)) →
    IsSaidOf (slice_get made at) (slice_get journal at) at is_alike verdict → Judges over old new found journal out verdict
judged over old new found part made journal given out at is_alike verdict call same fits handed until like said =
    judges over old new found made journal given out at (subst (λ j. IsCall over old new found j given) (sym same) call)
    (subst (λ j. AnswerAlike j journal) (sym same) (handed_alike part journal fits handed)) until is_alike verdict like said
