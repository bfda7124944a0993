-- Each exchange stands behind the others, and the run's end is the call's.
use Rattle.std.proofs.Common.{Some, option_copied, sym, ap, ◌∙◌, subst, arith}
use Rattle.cfg_chain.specs.Provides.{IsCall}
use Rattle.cfg_chain.specs.Settings.{ChainSetting}
use Rattle.cfg_chain.specs.Views.{chain_of}
use Rattle.cfg_run.specs.Runs.{IsUnderWay}
use Rattle.cfg_drive.proofs.Exchanging.{start_exchanged, one_exchanged, open_call, stops_put, stops_answer, ends_call, match_err}
use Rattle.cfg_drive.proofs.exchanges.call_over.Goals as goal

pub loop-line-init : goal.loop-line-init
loop-line-init g c = record {
  chain = c.start-run.ensures.chain;
  under_way = c.start-run.ensures.under_way;
  base = ap (λ p. p.base) c.start-run.ensures.nothing ∙ c.in_ok-new_kept.ensures.nothing;
  fits = tt;
  exchanged = start_exchanged _ _ _ _ _ _ (ap (λ p. p.asked) c.start-run.ensures.nothing);
  source_counted = omega arith;
  sink_counted = omega arith;
}

pub poll-requires-clause-under_way : goal.poll-requires-clause-under_way
poll-requires-clause-under_way g c =
    let is_over = ap (λ chain. chain_of (λ z. (goal.ProvideCredentials-dyn g z).value z.1) (λ z. (goal.ClassifyRetry-dyn g z).repeated z.1) chain) c.loop-line.invariant.chain in
    subst (λ over. IsUnderWay over c.loop-line.run.progress) (sym is_over) c.loop-line.invariant.under_way

pub returns-in_err-put-in-Pending-clause-ends : goal.returns-in_err-put-in-Pending-clause-ends
returns-in_err-put-in-Pending-clause-ends g c =
    let over : ChainSetting = chain_of (λ z. (goal.ProvideCredentials-dyn g z).value z.1) (λ z. (goal.ClassifyRetry-dyn g z).repeated z.1) c.args.chain.now in
    let is_over = ap (λ chain. chain_of (λ z. (goal.ProvideCredentials-dyn g z).value z.1) (λ z. (goal.ClassifyRetry-dyn g z).repeated z.1) chain) c.loop-line.invariant.chain in
    let comes = rw c.in-Pending.is at c.in_ok-poll.ensures.comes in
    let way = subst (λ over. IsUnderWay over c.poll.new.self.progress) is_over comes.1 in
    let shown = sym c.question.ensures ∙ ap option_copied c.unwrap.ensures ∙ ap Some (sym c.in_ok-question-in-Pending.ensures) in
    let so_far = c.loop-line.invariant.exchanged in
    let next = open_call over c.poll.new.self.progress c.in_ok-question-in-Pending.question so_far.exchanges way shown (c.poll.ensures.start.0 ∙ c.loop-line.invariant.base) (c.in_ok-poll.ensures.asked ∙ so_far.is_journal) in
    match_err _ c.in_err-put-in-Pending.field-0.0 _ _ c.from_residual-in_err-put-in-Pending.ensures.1
    (stops_put over _ _ _ _ _ _ _ _ _ _ _ _ _ c.in_err-put-in-Pending.field-0.0 so_far next c.loop-line.invariant.sink_counted c.in_err-put-in-Pending.ensures.put)

pub returns-in_err-answer-in-Pending-clause-ends : goal.returns-in_err-answer-in-Pending-clause-ends
returns-in_err-answer-in-Pending-clause-ends g c =
    let over : ChainSetting = chain_of (λ z. (goal.ProvideCredentials-dyn g z).value z.1) (λ z. (goal.ClassifyRetry-dyn g z).repeated z.1) c.args.chain.now in
    let is_over = ap (λ chain. chain_of (λ z. (goal.ProvideCredentials-dyn g z).value z.1) (λ z. (goal.ClassifyRetry-dyn g z).repeated z.1) chain) c.loop-line.invariant.chain in
    let comes = rw c.in-Pending.is at c.in_ok-poll.ensures.comes in
    let way = subst (λ over. IsUnderWay over c.poll.new.self.progress) is_over comes.1 in
    let shown = sym c.question.ensures ∙ ap option_copied c.unwrap.ensures ∙ ap Some (sym c.in_ok-question-in-Pending.ensures) in
    let so_far = c.loop-line.invariant.exchanged in
    let next = open_call over c.poll.new.self.progress c.in_ok-question-in-Pending.question so_far.exchanges way shown (c.poll.ensures.start.0 ∙ c.loop-line.invariant.base) (c.in_ok-poll.ensures.asked ∙ so_far.is_journal) in
    match_err _ c.in_err-answer-in-Pending.field-0.0 _ _ c.from_residual-in_err-answer-in-Pending.ensures.1
    (stops_answer over _ _ _ _ _ _ _ _ _ _ _ _ _ _ _ c.in_err-answer-in-Pending.field-0.0 so_far next c.loop-line.invariant.source_counted c.in_ok-put-in-Pending.ensures.put c.in_err-answer-in-Pending.ensures.answer)

pub returns-in-Ready-clause-ends : goal.returns-in-Ready-clause-ends
returns-in-Ready-clause-ends g c =
    let over : ChainSetting = chain_of (λ z. (goal.ProvideCredentials-dyn g z).value z.1) (λ z. (goal.ClassifyRetry-dyn g z).repeated z.1) c.args.chain.now in
    let is_over = ap (λ chain. chain_of (λ z. (goal.ProvideCredentials-dyn g z).value z.1) (λ z. (goal.ClassifyRetry-dyn g z).repeated z.1) chain) c.loop-line.invariant.chain in
    let comes = rw c.in-Ready.is at c.in_ok-poll.ensures.comes in
    let p = c.poll.new.self.progress in
    ends_call over _ _ p _ _ _ c.in-Ready.answer c.loop-line.invariant.exchanged c.in_ok-poll.ensures.asked (c.poll.ensures.start.0 ∙ c.loop-line.invariant.base)
    (subst (λ o. IsCall o p.base p.kept p.found p.asked c.in-Ready.answer) is_over comes.1) (c.in_ok-journal-in-Ready.ensures ∙ c.asked.ensures)

pub loop-line-preserved : goal.loop-line-preserved
loop-line-preserved g c =
    let is_over = ap (λ chain. chain_of (λ z. (goal.ProvideCredentials-dyn g z).value z.1) (λ z. (goal.ClassifyRetry-dyn g z).repeated z.1) chain) c.loop-line.invariant.chain in
    let comes = rw c.in-Pending.is at c.in_ok-poll.ensures.comes in
    let shown = sym c.question.ensures ∙ ap option_copied c.unwrap.ensures ∙ ap Some (sym c.in_ok-question-in-Pending.ensures) in
    let answers = c.in_ok-answer-in-Pending.ensures.answer in
    let so_far = c.loop-line.invariant.exchanged in
    let way = subst (λ over. IsUnderWay over c.poll.new.self.progress) is_over comes.1 in
    let next = open_call _ c.poll.new.self.progress c.in_ok-question-in-Pending.question so_far.exchanges way shown (c.poll.ensures.start.0 ∙ c.loop-line.invariant.base) (c.in_ok-poll.ensures.asked ∙ so_far.is_journal) in
    record {
      chain = c.poll.ensures.chain ∙ c.loop-line.invariant.chain;
      under_way = way;
      base = c.poll.ensures.start.0 ∙ c.loop-line.invariant.base;
      fits = shown ∙ ap Some (sym answers.asked);
      exchanged = one_exchanged _ _ _ _ _ _ _ _ _ _ _ _ _ _ _ _ _ _ so_far c.in_ok-poll.ensures.asked next c.in_ok-put-in-Pending.ensures.put answers;
      source_counted = omega (arith, c.loop-line.invariant.source_counted, c.answer.ensures.counted);
      sink_counted = omega (arith, c.loop-line.invariant.sink_counted, c.put.ensures.counted);
    }
