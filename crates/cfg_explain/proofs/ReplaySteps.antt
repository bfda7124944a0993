-- What is told by the first place at which a journal has not the answers that were handed in is right.
use Rattle.std.proofs.Common.{◌≡◌, ℕ, List, map, option_map, take, Option, Some, None, refl, sym, ◌∙◌, ap, subst}
use Rattle.std.specs.Prelude.{slice_get}
use Rattle.std.proofs.lemmas.Option.{slice_get-map}
use Rattle.cfg_world.specs.Fits.{Pair, Fits, EachFits}
use Rattle.cfg_world.specs.Handed.{GivenFrom, IsGiven}
use Rattle.cfg_kept.specs.Kinds.{Value, States}
use Rattle.cfg_providers.specs.CustomSources.{Answer}
use Rattle.cfg_chain.specs.BegunCalls.{IsNextOfCall}
use Rattle.cfg_chain.specs.Provides.{IsCall}
use Rattle.cfg_chain.specs.Settings.{ChainSetting}
use Rattle.cfg_explain.specs.Answerings.{answering_of, HasAnswers, AreNotAlike, AlikeUntil}
use Rattle.cfg_explain.specs.Kinds.{kind_of}
use Rattle.cfg_explain.specs.Replays.{Tells, IsToldOf}
use Rattle.cfg_explain.specs.declared.answering.Answering.{Answering}
use Rattle.cfg_explain.specs.declared.answering.Replay.{Replay}
use Rattle.cfg_explain.proofs.AnsweringSteps.{fits_front}
use Rattle.cfg_explain.proofs.ChainTrees.{call_asks}
use Rattle.cfg_explain.proofs.HandedAnswers.{given_at}
use Rattle.cfg_explain.proofs.JournalSteps.{cut_at, whole_at}

-- an answer that fits its question is the one that devices gave that were handed it
same_answering : (e : Pair) (a : Answering) → IsGiven (Some a.answer) e.0 e.1 → a.kind ≡ kind_of e.0 → Fits e.0 a.answer → answering_of e ≡ a
same_answering e a given kind fits = λ i. record { kind = sym kind i; answer = given.0 fits i }

module _ (over : ChainSetting) (old new : States) (found : List Value) (made : List Pair) (answers : List Answering) (given : Answer) (at : ℕ)
    (call : IsCall over old new found made given) (fits : EachFits made) (handed : GivenFrom (map (λ a. a.answer) answers) 0 made) (until : AlikeUntil made answers at) where
  front : HasAnswers (take at made) (take at answers)
  front = record { has = until.same; fits = fits_front at made fits }

  next_at : (e : Pair) → slice_get made at ≡ Some e → IsNextOfCall over old (take at made) e.0
  next_at e h =
      let c = cut_at at made e h in
      call_asks over old new found (take at made) e c.rest given (subst (λ j. IsCall over old new found j given) c.is call)

  given_there : (e : Pair) (a : Answering) → slice_get made at ≡ Some e → slice_get answers at ≡ Some a → IsGiven (Some a.answer) e.0 e.1
  given_there e a h k =
      subst (λ o. IsGiven o e.0 e.1) (slice_get-map (λ (x : Answering). x.answer) answers at ∙ ap (option_map (λ (x : Answering). x.answer)) k) (given_at (map (λ x. x.answer) answers) made at e handed h)

  tells_at : (one : Option Pair) (other : Option Answering) (told : Replay) → slice_get made at ≡ one → slice_get answers at ≡ other → AreNotAlike one other → IsToldOf made one other at given told →
      Tells over old new found answers told
  tells_at (Some e) (Some a) told h k ends said =
      subst (Tells over old new found answers) (sym said)
      (record {
        question = e.0;
        before = record { journal = take at made; answered = front; next = next_at e h };
        kind = refl;
        handed = a;
        there = k;
        other = λ kind fit. ends (same_answering e a (given_there e a h k) kind fit);
      })
  tells_at (Some e) None told h k ends said =
      subst (Tells over old new found answers) (sym said)
      (e.0, record { journal = take at made; answered = subst (HasAnswers (take at made)) (whole_at at answers k) front; next = next_at e h }, refl)
  tells_at None (Some a) told h k ends said =
      subst (Tells over old new found answers) (sym said)
      ((cut_at at answers a k).lt, (take at made, front, (new, found, given, subst (λ j. IsCall over old new found j given) (sym (whole_at at made h)) call)))
  tells_at None None told h k ends said =
      subst (Tells over old new found answers) (sym said)
      (subst (λ j. HasAnswers j answers) (whole_at at made h) (subst (HasAnswers (take at made)) (whole_at at answers k) front), call)

  pub tells : (told : Replay) → IsToldOf made (slice_get made at) (slice_get answers at) at given told → Tells over old new found answers told
  tells told said = tells_at (slice_get made at) (slice_get answers at) told refl refl until.ends said

-- the same of a call over devices that were handed the answers
pub told : (over : ChainSetting) (old new : States) (found : List Value) (part made : List Pair) (answers : List Answering) (given : Answer) (at : ℕ) (replay : Replay) →
    IsCall over old new found part given → made ≡ part → EachFits part → GivenFrom (map (λ a. a.answer) answers) 0 part → AlikeUntil made answers at → IsToldOf made (slice_get made at) (slice_get answers at) at given replay →
    Tells over old new found answers replay
told over old new found part made answers given at replay call same fits handed until said =
    tells over old new found made answers given at (subst (λ j. IsCall over old new found j given) (sym same) call) (subst EachFits (sym same) fits)
    (subst (λ j. GivenFrom (map (λ a. a.answer) answers) 0 j) (sym same) handed) until replay said
