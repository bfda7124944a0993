-- The run gave no answer yet, and the receipt is that of the question that is shown.
use Rattle.std.proofs.Common.{◌≡◌, Some, IfSome}
use Rattle.cfg_chain.specs.Views.{chain_of}
use Rattle.cfg_run.specs.Runs.{IsUnderWay}
use Rattle.cfg_chain_bench.proofs.runs.drive.Given as goal

abbrev pub invariant-loop : goal.invariant-loop
invariant-loop g l = record {
  under_way : IsUnderWay (chain_of (λ z. (goal.ProvideCredentials-dyn g z).value z.1) (λ z. (goal.ClassifyRetry-dyn g z).repeated z.1) l.run.chain.now) l.run.progress;
  fits : IfSome l.receipt (λ e. l.run.progress.question ≡ Some e.0);
}
