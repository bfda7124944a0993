-- All receipts were handed out: they are the journal of a whole call, or the open question is next.
use Rattle.std.proofs.Common.{◌≡◌, map, inl, inr, Some, IsSome, Result, Err, refl, sym, ap, ◌∙◌, subst}
use Rattle.cfg_world.specs.declared.asking.Stop.{Stop}
use Rattle.cfg_world.specs.declared.asking.Stop.TheVariants.{OutOfMemory, Open}
use Rattle.cfg_kept.specs.FoundValues.{bare}
use Rattle.cfg_kept.specs.KeptInquiry.{Asks}
use Rattle.cfg_kept.specs.KeptStates.{states_of}
use Rattle.cfg_exchange.proofs.Checks.{not_stopped}
use Rattle.cfg_chain.specs.Askers.{IsAskedBy}
use Rattle.cfg_chain.specs.Members.{credentials_chain, default_chain, default_members}
use Rattle.cfg_chain.specs.Settings.{ChainSetting, setting}
use Rattle.cfg_chain.specs.Views.{chain_of}
use Rattle.cfg_run.proofs.ReplaySteps.{if_shown}
use Rattle.cfg_run.proofs.Askers.{asked_by_some}
use Rattle.cfg_run.proofs.RunSteps.{walk_ends, walk_waits, there_too, asker_there}
use Rattle.cfg_run.proofs.run.next_of.Goals as goal

not_open : {T : Type 0} → ◌≡◌ {A = Result T Stop} (Err Open) (Err OutOfMemory) → ⊥
not_open h = cc

pub returns-in-Ok-clause-comes : goal.returns-in-Ok-clause-comes
returns-in-Ok-clause-comes g c =
    let over : ChainSetting = chain_of (λ z. (goal.ProvideCredentials-dyn g z).value z.1) (λ z. (goal.ClassifyRetry-dyn g z).repeated z.1) c.args.chain.now in
    elim c.in-Ok.ensures.follows [
      | inl n ↦ absurd (not_stopped _ _ n.0)
      | inr h ↦
          let e = h.2 in
          walk_ends over c.args.progress.now.base (states_of c.in_ok-kept.kept) (states_of c.follow_by_member.new.keeper) c.args.progress.now.asked e.part c.replay-replay.result c.follow_by_member.new.asking
          (map bare c.in_ok-kept.kept.found.items) e.found (map bare c.follow_by_member.new.keeper.found.items) h.0 h.1 c.requires.begun c.replay-replay.ensures e.grows e.made
          (ap (map bare) c.in_ok-kept.ensures.found) c.in_ok-kept.ensures.states e.finds c.in-Ok.answer e.runs
    ]

pub unwrap-requires : goal.unwrap-requires
unwrap-requires g c = elim (rw c.in-Err-Open.field-0-is at c.in-Err-Open.ensures.follows) [
  | inl n ↦ absurd (not_open n.0)
  | inr h ↦ subst IsSome (sym c.into_question.ensures.is) h.2.is_open
]

pub returns-in-Err-Open-clause-comes : goal.returns-in-Err-Open-clause-comes
returns-in-Err-Open-clause-comes g c =
    let over : ChainSetting = chain_of (λ z. (goal.ProvideCredentials-dyn g z).value z.1) (λ z. (goal.ClassifyRetry-dyn g z).repeated z.1) c.args.chain.now in
    elim (rw c.in-Err-Open.field-0-is at c.in-Err-Open.ensures.follows) [
      | inl n ↦ absurd (not_open n.0)
      | inr h ↦
          let e = h.2 in
          let k = rw c.in-Err-Open.field-0-is at c.in-Err-Open.ensures.asker in
          let shown = sym c.into_question.ensures.is ∙ c.unwrap.ensures in
          let old = states_of c.in_ok-kept.kept in
          let new = states_of c.follow_by_member.new.keeper in
          let member = c.follow_by_member.new.asker in
          let asker = if_shown (λ q. IsAskedBy (credentials_chain (setting over k.services)) default_members (Some old) k.asks.found k.asks.part member q (Some new)) c.follow_by_member.new.asking.unanswered c.unwrap.result shown k.asks.asks in
          walk_waits over c.args.progress.now.base old new c.args.progress.now.asked e.part c.replay-replay.result c.follow_by_member.new.asking
          (map bare c.in_ok-kept.kept.found.items) e.found (map bare c.follow_by_member.new.keeper.found.items) h.0 h.1 c.requires.begun c.replay-replay.ensures e.grows e.made
          (ap (map bare) c.in_ok-kept.ensures.found) c.in_ok-kept.ensures.states e.finds c.unwrap.result member shown c.into_question.ensures.open
          (if_shown (λ q. Asks (default_chain (setting over h.0)) (Some old) e.found e.part q (Some new)) c.follow_by_member.new.asking.unanswered c.unwrap.result shown e.asks)
          (asker_there over h.0 k.services (Some old) (Some new) e.found k.asks.found e.part k.asks.part member c.unwrap.result h.1 k.names (there_too (map bare c.in_ok-kept.kept.found.items) _ e.found k.asks.found e.finds k.asks.finds) (there_too c.replay-replay.result.handed _ e.part k.asks.part e.grows k.asks.grows) asker)
    ]

pub returns-in-Err-Open-clause-shown : goal.returns-in-Err-Open-clause-shown
returns-in-Err-Open-clause-shown g c =
    let over : ChainSetting = chain_of (λ z. (goal.ProvideCredentials-dyn g z).value z.1) (λ z. (goal.ClassifyRetry-dyn g z).repeated z.1) c.args.chain.now in
    let k = rw c.in-Err-Open.field-0-is at c.in-Err-Open.ensures.asker in
    let shown = sym c.into_question.ensures.is ∙ c.unwrap.ensures in
    let old = states_of c.in_ok-kept.kept in
    let new = states_of c.follow_by_member.new.keeper in
    let member = c.follow_by_member.new.asker in
    let chain = credentials_chain (setting over k.services) in (
      λ some. refl,
      λ some. asked_by_some chain default_members (Some old) k.asks.found k.asks.part member c.unwrap.result (Some new)
          (if_shown (λ q. IsAskedBy chain default_members (Some old) k.asks.found k.asks.part member q (Some new)) c.follow_by_member.new.asking.unanswered c.unwrap.result shown k.asks.asks),
    )
