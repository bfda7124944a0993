-- The run gave no region yet, and the receipt is that of the question that is shown.
use Rattle.std.proofs.Common.{◌≡◌, Some, IfSome}
use Rattle.cfg_region.specs.SourceLists.{region_sources, chain_tree}
use Rattle.cfg_run.specs.RegionRuns.{IsUnderWay}
use Rattle.cfg_chain_tests.proofs.region_runs.by_run.Given as goal

abbrev pub invariant-loop : goal.invariant-loop
invariant-loop g l = record {
  under_way : IsUnderWay (chain_tree (region_sources (λ z. (goal.ProvideRegion-dyn g z).told_region z.1) (λ z. (goal.ClassifyRetry-dyn g z).repeated z.1) l.run.chain.now)) l.run.progress.asked l.run.progress.question;
  fits : IfSome l.receipt (λ e. l.run.progress.question ≡ Some e.0);
}
