-- Of one journal and one outcome there is one verdict.
use Rattle.std.proofs.Common.{◌≡◌, ◌↔◌, ◌⊎◌, inl, inr, ◌≤◌, ℕ, List, take, length, Option, Some, None, IfSome, refl, sym, ap, ◌∙◌, subst, arith}
use Rattle.std.specs.Prelude.{slice_get}
use Rattle.cfg_world.specs.declared.ask.Question.{Question}
use Rattle.cfg_world.specs.Fits.{Pair}
use Rattle.cfg_kept.specs.Kinds.{Value, States}
use Rattle.cfg_providers.specs.CustomSources.{Answer}
use Rattle.cfg_chain.specs.Members.{default_chain}
use Rattle.cfg_chain.specs.Settings.{ChainSetting, setting}
use Rattle.cfg_chain.proofs.Calls.{one_journal}
use Rattle.cfg_explain.specs.Alike.{aside}
use Rattle.cfg_explain.specs.Verdicts.{Judges, IsCallTo, IsCallToAnother}
use Rattle.cfg_explain.specs.declared.verdict.Verdict.{Verdict}
use Rattle.cfg_explain.specs.declared.verdict.Verdict.TheVariants.{Yes, Other, Short, Long, Outcome}
use Rattle.cfg_explain.proofs.ChainTrees.{CallStandsAt, services_at, tree_stands}
use Rattle.cfg_explain.proofs.JournalSteps.{some_is, not_some, cut_at, item_at, take_behind, take_length, alike_self, alike_takes, end_of}
use Rattle.cfg_explain.proofs.Standing.{Departs, one_stand}

-- the verdict by what is next behind the entries before this place, and by the entry there; by the outcome where there
-- is neither
abbrev IsSaidAt : Option Question → Option Pair → ℕ → Verdict → Type 0
IsSaidAt (Some q) (Some e) at verdict = (verdict ≡ Other at q) × (e.0 ≡ q → ⊥)
IsSaidAt (Some q) None at verdict = verdict ≡ Short q
IsSaidAt None (Some e) at verdict = verdict ≡ Long at
IsSaidAt None None at verdict = (verdict ≡ Yes) ⊎ (verdict ≡ Outcome)

-- The first place at which a journal is not that of the call: what is next there, and what the verdict says of it.
record Parted (over : ChainSetting) (old : States) (journal : List Pair) (verdict : Verdict) : Type 0 where
  at : ℕ
  next : Option Question
  there : Option Pair
  is : slice_get journal at ≡ there
  within : at ≤ length journal
  stands : CallStandsAt over old (take at journal) next
  said : IsSaidAt next there at verdict

module _ (over : ChainSetting) (old : States) (journal : List Pair) where
  at_end : (next : Option Question) (verdict : Verdict) → CallStandsAt over old journal next → IsSaidAt next None (length journal) verdict → Parted over old journal verdict
  at_end next verdict stands said = record {
    at = length journal;
    next = next;
    there = None;
    is = (end_of journal).1;
    within = omega arith;
    stands = subst (λ j. CallStandsAt over old j next) (sym (end_of journal).0) stands;
    said = said;
  }

  parted : (new : States) (found : List Value) (out : Answer) (verdict : Verdict) → Judges over old new found journal out verdict → Parted over old journal verdict
  parted new found out Yes j = at_end None Yes (new, found, j.0, j.1) (inl refl)
  parted new found out (Other at wanted) j = record {
    at = at;
    next = Some wanted;
    there = Some j.entry;
    is = j.there;
    within = let lt = (cut_at at journal j.entry j.there).lt in omega arith;
    stands = j.next;
    said = (refl, j.other);
  }
  parted new found out (Short wanted) j = at_end (Some wanted) (Short wanted) j refl
  parted new found out (Long at) j =
      let item = item_at at journal j.0 in
      record { at = at; next = None; there = Some item.0; is = item.1; within = let lt = j.0 in omega arith; stands = j.1; said = refl }
  parted new found out Outcome j = at_end None Outcome (j.new, j.found, j.given, j.call) (inr refl)

  -- the entry behind such a place has another question than the one that is next
  departs_at : (next : Option Question) (there : Option Pair) (at : ℕ) (verdict : Verdict) (e : Pair) → IsSaidAt next there at verdict → there ≡ Some e → IfSome next (λ q. e.0 ≡ q → ⊥)
  departs_at (Some q) (Some f) at verdict e said is = λ same. said.1 (ap (λ (x : Pair). x.0) (some_is is) ∙ same)
  departs_at (Some q) None at verdict e said is = absurd (not_some is)
  departs_at None there at verdict e said is = tt

  departs : (verdict : Verdict) (a : Parted over old journal verdict) (m : ℕ) → Departs (take a.at journal) (take m journal) a.next
  departs verdict a m = λ e rest is. departs_at a.next a.there a.at verdict e a.said (sym a.is ∙ take_behind a.at m journal e rest is)

  -- two verdicts part from the journal at one place
  one_place : (verdict also : Verdict) (a : Parted over old journal verdict) (b : Parted over old journal also) → (a.at ≡ b.at) × (a.next ≡ b.next)
  one_place verdict also a b =
      let s = services_at over old (take a.at journal) a.next a.stands in
      let r = one_stand (default_chain (setting over s.0)) old (take a.at journal) (take b.at journal) a.next b.next (tree_stands over old s.0 s.1 (take a.at journal) a.next a.stands)
      (tree_stands over old s.0 s.1 (take b.at journal) b.next b.stands) (alike_takes a.at b.at journal) (alike_takes b.at a.at journal) (departs verdict a b.at) (departs also b a.at) in
      (sym (take_length a.at journal a.within) ∙ ap length r.0 ∙ take_length b.at journal b.within, r.1)

  -- what is said of one place is one, but for the outcome
  one_said : (next : Option Question) (there : Option Pair) (at : ℕ) (verdict also : Verdict) → IsSaidAt next there at verdict → IsSaidAt next there at also →
      (verdict ≡ also) ⊎ (((verdict ≡ Yes) × (also ≡ Outcome)) ⊎ ((verdict ≡ Outcome) × (also ≡ Yes)))
  one_said (Some q) (Some e) at verdict also s t = inl (s.0 ∙ sym t.0)
  one_said (Some q) None at verdict also s t = inl (s ∙ sym t)
  one_said None (Some e) at verdict also s t = inl (s ∙ sym t)
  one_said None None at verdict also (inl s) (inl t) = inl (s ∙ sym t)
  one_said None None at verdict also (inl s) (inr t) = inr (inl (s, t))
  one_said None None at verdict also (inr s) (inl t) = inr (inr (s, t))
  one_said None None at verdict also (inr s) (inr t) = inl (s ∙ sym t)

  -- one call does not come to an outcome and to another
  not_both : (new : States) (found : List Value) (out : Answer) → IsCallTo over old new found journal out → IsCallToAnother over old journal out → ⊥
  not_both new found out y o =
      let same = (one_journal over old o.new new o.found found journal journal o.given y.0 o.call y.1 (alike_self journal)).2 in
      o.other (ap aside same ∙ y.2)

  pub one_verdict : (new newer : States) (found more : List Value) (out : Answer) (verdict also : Verdict) → Judges over old new found journal out verdict → Judges over old newer more journal out also → verdict ≡ also
  one_verdict new newer found more out verdict also j k =
      let a = parted new found out verdict j in
      let b = parted newer more out also k in
      let r = one_place verdict also a b in
      let there : a.there ≡ b.there = sym a.is ∙ ap (slice_get journal) r.0 ∙ b.is in
      let said : IsSaidAt a.next a.there a.at also =
      subst (λ n. IsSaidAt n a.there a.at also) (sym r.1) (subst (λ t. IsSaidAt b.next t a.at also) (sym there) (subst (λ n. IsSaidAt b.next b.there n also) (sym r.0) b.said)) in
      elim (one_said a.next a.there a.at verdict also a.said said) [
        | inl same ↦ same
        | inr (inl h) ↦ absurd (not_both new found out (subst (Judges over old new found journal out) h.0 j) (subst (Judges over old newer more journal out) h.1 k))
        | inr (inr h) ↦ absurd (not_both newer more out (subst (Judges over old newer more journal out) h.1 k) (subst (Judges over old new found journal out) h.0 j))
      ]

  -- a yes is said exactly where there is such a call
  pub yes_exactly : (new : States) (found : List Value) (out : Answer) (verdict : Verdict) → Judges over old new found journal out verdict →
      (verdict ≡ Yes) ↔ ((after : States) × (finds : List Value) × IsCallTo over old after finds journal out)
  yes_exactly new found out verdict j = (
    λ yes. (new, found, subst (Judges over old new found journal out) yes j),
    λ c. one_verdict new c.0 found c.1 out verdict Yes j c.2,
  )
