-- Of one list of answers there is one replay.
use Rattle.std.proofs.Common.{◌≡◌, ◌↔◌, ◌≤◌, ℕ, List, take, length, Option, Some, None, IfSome, refl, sym, ap, ◌∙◌, subst, arith}
use Rattle.std.specs.Prelude.{slice_get}
use Rattle.std.proofs.lemmas.List.{length-map}
use Rattle.cfg_world.specs.declared.ask.Question.{Question}
use Rattle.cfg_world.specs.Fits.{Pair, Fits, EachFits}
use Rattle.cfg_kept.specs.Kinds.{Value, States}
use Rattle.cfg_providers.specs.CustomSources.{Answer}
use Rattle.cfg_chain.specs.Members.{default_chain}
use Rattle.cfg_chain.specs.Provides.{IsCall}
use Rattle.cfg_chain.specs.Settings.{ChainSetting, setting}
use Rattle.cfg_chain.proofs.Calls.{one_journal}
use Rattle.cfg_explain.specs.Answerings.{answering_of, HasAnswers}
use Rattle.cfg_explain.specs.Kinds.{kind_of}
use Rattle.cfg_explain.specs.Replays.{Tells, IsAnsweredCall}
use Rattle.cfg_explain.specs.declared.answering.Answering.{Answering}
use Rattle.cfg_explain.specs.declared.answering.Replay.{Replay}
use Rattle.cfg_explain.specs.declared.answering.Replay.TheVariants.{Whole, Other, Short, Long}
use Rattle.cfg_explain.proofs.AnsweringSteps.{answered_alike, answered_behind, fits_behind}
use Rattle.cfg_explain.proofs.ChainTrees.{CallStandsAt, services_at, tree_stands}
use Rattle.cfg_explain.proofs.JournalSteps.{some_is, not_some, cut_at, item_at, take_length, alike_self, end_of}
use Rattle.cfg_explain.proofs.Standing.{Departs, one_stand}

module _ (over : ChainSetting) (old : States) (answers : List Answering) where
  -- what is told by what is next behind this journal and by the answer at this place, and by the call where there is neither
  abbrev IsToldAt : Option Question → Option Answering → ℕ → List Pair → Replay → Type 0
  IsToldAt (Some q) (Some a) at journal told = (told ≡ Other at (kind_of q)) × (a.kind ≡ kind_of q → Fits q a.answer → ⊥)
  IsToldAt (Some q) None at journal told = told ≡ Short (kind_of q)
  IsToldAt None (Some a) at journal told = told ≡ Long at
  IsToldAt None None at journal told = (out : Answer) × (new : States) × (found : List Value) × IsCall over old new found journal out × (told ≡ Whole journal out)

  -- The first place at which the answers are not those of the call: the journal before it, what is next there, and what
  -- is told of it.
  record Parted (told : Replay) : Type 0 where
    at : ℕ
    next : Option Question
    there : Option Answering
    is : slice_get answers at ≡ there
    within : at ≤ length answers
    journal : List Pair
    has : HasAnswers journal (take at answers)
    stands : CallStandsAt over old journal next
    said : IsToldAt next there at journal told

  at_end : (next : Option Question) (told : Replay) (journal : List Pair) → HasAnswers journal answers → CallStandsAt over old journal next → IsToldAt next None (length answers) journal told → Parted told
  at_end next told journal has stands said = record {
    at = length answers;
    next = next;
    there = None;
    is = (end_of answers).1;
    within = omega arith;
    journal = journal;
    has = subst (HasAnswers journal) (sym (end_of answers).0) has;
    stands = stands;
    said = said;
  }

  parted : (new : States) (found : List Value) (told : Replay) → Tells over old new found answers told → Parted told
  parted new found (Whole journal out) t = at_end None (Whole journal out) journal t.0 (new, found, out, t.1) (out, new, found, t.1, refl)
  parted new found (Other at wanted) t = record {
    at = at;
    next = Some t.question;
    there = Some t.handed;
    is = t.there;
    within = let lt = (cut_at at answers t.handed t.there).lt in omega arith;
    journal = t.before.journal;
    has = t.before.answered;
    stands = t.before.next;
    said = (ap (Other at) (sym t.kind), λ kind. t.other (kind ∙ t.kind));
  }
  parted new found (Short wanted) t = at_end (Some t.0) (Short wanted) t.1.journal t.1.answered t.1.next (ap Short (sym t.2))
  parted new found (Long at) t =
      let item = item_at at answers t.0 in
      record { at = at; next = None; there = Some item.0; is = item.1; within = let lt = t.0 in omega arith; journal = t.1.0; has = t.1.1; stands = t.1.2; said = refl }

  -- the entry behind such a place is not of the question that is next
  departs_at : (next : Option Question) (there : Option Answering) (at : ℕ) (journal : List Pair) (told : Replay) (e : Pair) → IsToldAt next there at journal told → there ≡ Some (answering_of e) → Fits e.0 e.1 →
      IfSome next (λ q. e.0 ≡ q → ⊥)
  departs_at (Some q) (Some a) at journal told e said is fits = λ same.
      let mine : a ≡ answering_of e = some_is is in
      said.1 (ap (λ (x : Answering). x.kind) mine ∙ ap kind_of same) (subst (λ x. Fits x a.answer) same (subst (λ (x : Answering). Fits e.0 x.answer) (sym mine) fits))
  departs_at (Some q) None at journal told e said is fits = absurd (not_some is)
  departs_at None there at journal told e said is fits = tt

  departs : (told also : Replay) (a : Parted told) (b : Parted also) → Departs a.journal b.journal a.next
  departs told also a b = λ e rest is.
      departs_at a.next a.there a.at a.journal told e a.said (sym a.is ∙ answered_behind answers a.at b.at a.journal b.journal e rest a.has.has b.has.has is) (fits_behind a.journal e rest (subst EachFits is b.has.fits))

  -- two replays part from the answers at one place
  one_place : (told also : Replay) (a : Parted told) (b : Parted also) → (a.at ≡ b.at) × (a.next ≡ b.next) × (a.journal ≡ b.journal)
  one_place told also a b =
      let s = services_at over old a.journal a.next a.stands in
      let r = one_stand (default_chain (setting over s.0)) old a.journal b.journal a.next b.next (tree_stands over old s.0 s.1 a.journal a.next a.stands) (tree_stands over old s.0 s.1 b.journal b.next b.stands)
      (answered_alike answers a.at b.at a.journal b.journal a.has.has b.has.has) (answered_alike answers b.at a.at b.journal a.journal b.has.has a.has.has) (departs told also a b) (departs also told b a) in
      (sym (places told a) ∙ ap length r.0 ∙ places also b, r.1, r.0)
    where
      places : (told : Replay) (a : Parted told) → length a.journal ≡ a.at
      places told a = sym (length-map a.journal answering_of) ∙ ap length a.has.has ∙ take_length a.at answers a.within

  one_said : (next : Option Question) (there : Option Answering) (at : ℕ) (journal : List Pair) (told also : Replay) → IsToldAt next there at journal told → IsToldAt next there at journal also → told ≡ also
  one_said (Some q) (Some a) at journal told also s t = s.0 ∙ sym t.0
  one_said (Some q) None at journal told also s t = s ∙ sym t
  one_said None (Some a) at journal told also s t = s ∙ sym t
  one_said None None at journal told also s t =
      let same = (one_journal over old s.1 t.1 s.2 t.2 journal journal s.0 t.0 s.3 t.3 (alike_self journal)).2 in
      s.4 ∙ ap (Whole journal) same ∙ sym t.4

  pub one_replay : (new newer : States) (found more : List Value) (told also : Replay) → Tells over old new found answers told → Tells over old newer more answers also → told ≡ also
  one_replay new newer found more told also t u =
      let a = parted new found told t in
      let b = parted newer more also u in
      let r = one_place told also a b in
      let there : a.there ≡ b.there = sym a.is ∙ ap (slice_get answers) r.0 ∙ b.is in
      one_said a.next a.there a.at a.journal told also a.said
      (subst (λ n. IsToldAt n a.there a.at a.journal also) (sym r.1)
      (subst (λ x. IsToldAt b.next x a.at a.journal also) (sym there) (subst (λ n. IsToldAt b.next b.there n a.journal also) (sym r.0) (subst (λ j. IsToldAt b.next b.there b.at j also) (sym r.2) b.said))))

  -- a whole call is told exactly where there is one that is answered so
  pub whole_exactly : (new : States) (found : List Value) (told : Replay) → Tells over old new found answers told → (journal : List Pair) (out : Answer) → (told ≡ Whole journal out) ↔ IsAnsweredCall over old answers journal out
  whole_exactly new found told t journal out = (
    λ is. let w = subst (Tells over old new found answers) is t in (w.0, (new, found, w.1)),
    λ c. one_replay new c.1.0 found c.1.1 told (Whole journal out) t (c.0, c.1.2),
  )
