-- What is left is the chain of the other sources.
use Rattle.std.proofs.Common.{drop}
use Rattle.cfg_world.proofs.Inquiries.{Leads}
use Rattle.cfg_region.specs.Sources.{source_of}
use Rattle.cfg_region.proofs.RegionSteps.{chain}
use Rattle.cfg_region.proofs.meta.region.follow_sources.Given as goal

abbrev pub invariant-loop-source : goal.invariant-loop-source
invariant-loop-source g l =
    let of = source_of (λ b. (goal.ProvideRegion-dyn g (b.vtable, b.value)).told_region b.value) (λ z. (goal.ClassifyRetry-dyn g z).repeated z.1) in
    Leads g.A.Asking (chain of l.sources) l.fn.asking l.asking (chain of (drop l.source-index l.sources))
