-- What a poll of a call says is so exactly where it is said, and polls without a receipt change nothing.
use Rattle.std.specs.Prelude.{◌↔◌}
use Rattle.std.proofs.Common.{◌≡◌, List, Option, Some, None, IsSome, refl, sym, ap, ◌∙◌, subst}
use Rattle.cfg_world.specs.declared.ask.Question.{Question}
use Rattle.cfg_world.specs.Fits.{Pair}
use Rattle.cfg_kept.specs.Kinds.{Value, States}
use Rattle.cfg_kept.specs.KeptInquiry.{Runs, Asks}
use Rattle.cfg_kept.proofs.Beginnings.{one_next, next_no_end}
use Rattle.cfg_providers.specs.CustomSources.{Answer}
use Rattle.cfg_chain.specs.BegunCalls.{IsNextOfCall}
use Rattle.cfg_chain.specs.Members.{default_chain}
use Rattle.cfg_chain.specs.Provides.{IsCall}
use Rattle.cfg_chain.specs.Settings.{ChainSetting, Services, AreServices, setting}
use Rattle.cfg_chain.proofs.Calls.{one_answer, runs_call, some_is}
use Rattle.cfg_run.specs.CallSoFar.{CallSoFar}
use Rattle.cfg_run.specs.Runs.{IsWaitingCall, IsUnderWay, IsUnderWayAt, ComesTo}
use Rattle.cfg_run.specs.declared.run.Step.{Step}
use Rattle.cfg_run.specs.declared.run.Step.TheVariants.{Pending, Ready}
use Rattle.cfg_run.proofs.Askers.{one_member}
use Rattle.cfg_run.proofs.TreeSteps.{one_wait}

not_pending : (out : Answer) → Ready out ≡ Pending → ⊥
not_pending out h = cc

-- the call that was shown a question waits for it
record Shown (over : ChainSetting) (s : CallSoFar) : Type 0 where
  question : Question
  is : s.question ≡ Some question
  waits : IsWaitingCall over s.base s.kept s.found s.asked question s.member

shown_at : (over : ChainSetting) (s : CallSoFar) (question : Option Question) → s.question ≡ question → IsSome question → IsUnderWayAt over s question → Shown over s
shown_at over s None is some h = absurd (no_question some)
  where
    no_question : IsSome (let o : Option Question = None in o) → ⊥
    no_question e = cc
shown_at over s (Some q) is some h = record { question = q; is = is; waits = h }

shown : (over : ChainSetting) (s : CallSoFar) → IsSome s.question → IsUnderWay over s → Shown over s
shown over s some h = shown_at over s s.question refl some h.1

-- a call that waits came to no end
waits_no_end : (over : ChainSetting) (old new newer : States) (found more : List Value) (part : List Pair) (q : Question) (out : Answer) →
    (services : Services) → AreServices over services → Asks (default_chain (setting over services)) (Some old) found part q (Some new) → IsCall over old newer more part out → ⊥
waits_no_end over old new newer found more part q out services names asks c =
    let p = default_chain (setting over services) in
    next_no_end p old found more part q out (Some new) (Some newer) asks
    (subst (λ t. Runs (default_chain (setting over t)) (Some old) more part out (Some newer)) (one_answer over c.services services c.names names) (runs_call over old newer more part out c))

pub call_pending_exactly : (over : ChainSetting) (s : CallSoFar) (step : Step) → ComesTo over s step → (step ≡ Pending) ↔ ((question : Question) × IsNextOfCall over s.base s.asked question)
call_pending_exactly over s Pending h =
    let w = shown over s h.0 h.1 in
    (λ _. (w.question, record { services = w.waits.services; names = w.waits.names; next = (s.found, Some s.kept, w.waits.asks) }), λ _. refl)
call_pending_exactly over s (Ready out) h = (
  λ e. absurd (not_pending out e),
  λ n.
      let k = n.1 in
      let p = default_chain (setting over k.services) in
      absurd (
      next_no_end p s.base k.next.0 s.found s.asked n.0 out k.next.1 (Some s.kept) k.next.2
      (subst (λ t. Runs (default_chain (setting over t)) (Some s.base) s.found s.asked out (Some s.kept)) (one_answer over h.1.services k.services h.1.names k.names) (runs_call over s.base s.kept s.found s.asked out h.1))
      ),
)

-- two calls that wait behind one journal are one
module _ (over : ChainSetting) (before later : CallSoFar) (base : later.base ≡ before.base) (key : later.key ≡ before.key) (asked : later.asked ≡ before.asked) where
  one_shown : (one : Shown over before) (other : Shown over later) → later ≡ before
  one_shown one other =
      let a = one.waits in
      let b = other.waits in
      let p = default_chain (setting over a.services) in
      let there = subst (λ t. Asks (default_chain (setting over t)) (Some later.base) later.found later.asked other.question (Some later.kept)) (one_answer over b.services a.services b.names a.names) b.asks in
      let based = subst (λ k. Asks p (Some k) later.found later.asked other.question (Some later.kept)) base there in
      let there_too = subst (λ j. Asks p (Some before.base) later.found j other.question (Some later.kept)) asked based in
      let q = one_next p before.base later.found before.found before.asked other.question one.question (Some later.kept) (Some before.kept) there_too a.asks in
      let w = one_wait p before.base later.found before.found before.asked other.question one.question (Some later.kept) (Some before.kept) there_too a.asks in
      let question : later.question ≡ before.question = other.is ∙ ap Some q ∙ sym one.is in
      let kept : later.kept ≡ before.kept = some_is later.kept before.kept w.1 in
      let waits = subst (λ j. IsWaitingCall over before.base later.kept later.found j other.question later.member) asked (subst (λ k. IsWaitingCall over k later.kept later.found later.asked other.question later.member) base b) in
      let member : later.member ≡ before.member = one_member over before.base later.kept before.kept later.found before.found before.asked other.question one.question later.member before.member waits a in
      λ i. record { key = key i; base = base i; kept = kept i; found = w.0 i; asked = asked i; question = question i; member = member i }

  pub call_by_receipts : (step : Step) → IsSome before.question → IsUnderWay over before → ComesTo over later step → (step ≡ Pending) × (later ≡ before)
  call_by_receipts Pending some h c = (refl, one_shown (shown over before some h) (shown over later c.0 c.1))
  call_by_receipts (Ready out) some h c =
      let w = shown over before some h in
      absurd (
      waits_no_end over before.base before.kept later.kept before.found later.found before.asked w.question out w.waits.services w.waits.names w.waits.asks
      (subst (λ j. IsCall over before.base later.kept later.found j out) asked (subst (λ k. IsCall over k later.kept later.found later.asked out) base c.1))
      )
