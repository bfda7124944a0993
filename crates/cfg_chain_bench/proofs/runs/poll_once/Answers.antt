-- The chain stays, and so does all where memory ran out.
use Rattle.std.proofs.Common.{IfOk, sym, ap, subst}
use Rattle.cfg_chain.specs.Settings.{ChainSetting}
use Rattle.cfg_chain.specs.Views.{chain_of}
use Rattle.cfg_run.specs.Runs.{IsUnderWay, ComesTo}
use Rattle.cfg_chain_bench.proofs.Polling.{on_err}
use Rattle.cfg_chain_bench.proofs.runs.poll_once.Goals as goal

pub returns-clause-comes : goal.returns-clause-comes
returns-clause-comes g c =
    let is_over = ap (λ chain. chain_of (λ z. (goal.ProvideCredentials-dyn g z).value z.1) (λ z. (goal.ClassifyRetry-dyn g z).repeated z.1) chain) c.poll.ensures.chain in
    subst (λ over. IfOk c.poll.result (ComesTo over c.poll.new.self.progress)) (sym is_over) c.poll.ensures.comes

pub returns-clause-under_way : goal.returns-clause-under_way
returns-clause-under_way g c =
    let is_over = ap (λ chain. chain_of (λ z. (goal.ProvideCredentials-dyn g z).value z.1) (λ z. (goal.ClassifyRetry-dyn g z).repeated z.1) chain) c.poll.ensures.chain in
    let before : ChainSetting = chain_of (λ z. (goal.ProvideCredentials-dyn g z).value z.1) (λ z. (goal.ClassifyRetry-dyn g z).repeated z.1) c.args.run.now.chain.now in
    on_err c.poll.result
    (λ still. subst (λ over. IsUnderWay over c.poll.new.self.progress) (sym is_over) (subst (λ p. IsUnderWay before p) (sym still) c.requires.under_way))
    c.poll.ensures.stays

pub returns-clause-stays : goal.returns-clause-stays
returns-clause-stays g c = on_err c.poll.result (ap (λ p. p.question)) c.poll.ensures.stays
