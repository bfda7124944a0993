-- Nothing was asked yet.
use Rattle.std.proofs.Common.{refl, sym, subst}
use Rattle.cfg_region.specs.SourceLists.{region_sources, chain_tree}
use Rattle.cfg_run.specs.SoFar.{AskedSoFar}
use Rattle.cfg_run.specs.RegionRuns.{IsUnderWay}
use Rattle.cfg_run.proofs.region_run.RegionRun.start.Goals as goal

pub returns-clause-under_way : goal.returns-clause-under_way
returns-clause-under_way g c =
    let p = chain_tree (region_sources (λ z. (goal.ProvideRegion-dyn g z).told_region z.1) (λ z. (goal.ClassifyRetry-dyn g z).repeated z.1) c.args.chain.now) in
    subst (λ (s : AskedSoFar). IsUnderWay p s.asked s.question) (sym c.new.ensures) refl
