-- The run's end is the call's, and each question adds its receipt.
use Rattle.std.proofs.Common.{Some, option_copied, sym, ap, ◌∙◌, subst}
use Rattle.cfg_chain.specs.Views.{chain_of}
use Rattle.cfg_run.specs.Runs.{IsUnderWay}
use Rattle.caller.proofs.Polling.{provides_by, grows_more}
use Rattle.caller.proofs.receipts.call_by_receipts.Goals as goal

pub poll-requires-clause-under_way : goal.poll-requires-clause-under_way
poll-requires-clause-under_way g c =
    let is_over = ap (λ chain. chain_of (λ z. (goal.ProvideCredentials-dyn g z).value z.1) (λ z. (goal.ClassifyRetry-dyn g z).repeated z.1) chain) c.loop.invariant.chain in
    subst (λ over. IsUnderWay over c.loop.run.progress) (sym is_over) c.loop.invariant.under_way

pub returns-in-Ready : goal.returns-in-Ready
returns-in-Ready g c =
    let is_over = ap (λ chain. chain_of (λ z. (goal.ProvideCredentials-dyn g z).value z.1) (λ z. (goal.ClassifyRetry-dyn g z).repeated z.1) chain) c.loop.invariant.chain in
    let comes = rw c.in-Ready.is at c.in_ok-poll.ensures.comes in
    provides_by _ _ _ _ _ _ _ _ _ _ _ _ c.in-Ready.answer is_over (c.poll.ensures.start.0 ∙ c.loop.invariant.base) c.into_kept-kept.ensures.states c.into_kept-kept.ensures.found
    c.in_ok-poll.ensures.asked c.loop.invariant.grows comes.1

pub loop-preserved : goal.loop-preserved
loop-preserved g c =
    let is_over = ap (λ chain. chain_of (λ z. (goal.ProvideCredentials-dyn g z).value z.1) (λ z. (goal.ClassifyRetry-dyn g z).repeated z.1) chain) c.loop.invariant.chain in
    let comes = rw c.in-Pending.is at c.in_ok-poll.ensures.comes in
    record {
      chain = c.poll.ensures.chain ∙ c.loop.invariant.chain;
      under_way = subst (λ over. IsUnderWay over c.poll.new.self.progress) is_over comes.1;
      base = c.poll.ensures.start.0 ∙ c.loop.invariant.base;
      fits = sym c.question.ensures ∙ ap option_copied c.unwrap.ensures ∙ ap Some (sym c.in_ok-question-in-Pending.ensures) ∙ ap Some (sym c.in_ok-ask-in-Pending.ensures.asked);
      grows = grows_more c.in_ok-poll.ensures.asked c.loop.invariant.grows c.in_ok-ask-in-Pending.ensures.grows;
    }
