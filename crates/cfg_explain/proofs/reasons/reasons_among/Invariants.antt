-- The members so far were passed over, and the reasons behind them are those of the others.
use Rattle.std.proofs.Common.{◌≡◌, drop}
use Rattle.cfg_chain.specs.Views.{chain_of}
use Rattle.cfg_explain.specs.Reasons.{behind, reasons_among}
use Rattle.cfg_explain.proofs.reasons.reasons_among.Given as goal

abbrev pub invariant-loop-member : goal.invariant-loop-member
invariant-loop-member g l =
    let over = chain_of (λ z. (goal.ProvideCredentials-dyn g z).value z.1) (λ z. (goal.ClassifyRetry-dyn g z).repeated z.1) l.chain in
    behind l.passed_over.items (reasons_among over l.answer (drop l.member-index l.members)) ≡ reasons_among over l.answer l.members
