-- The journal is the parts of the sources.
use Rattle.cfg_region.specs.SourceLists.{sources_of, trees}
use Rattle.cfg_region.proofs.Chains.{chain_parts}
use Rattle.cfg_region.proofs.meta.region.RegionProviderChain.region.Goals as goal

pub returns-in-Ok-clause-tells : goal.returns-in-Ok-clause-tells
returns-in-Ok-clause-tells g c =
    let e = c.in-Ok.ensures in
    record {
      part = e.part;
      grows = record { journal = e.grows; fits = e.fits; same = e.same; counted = e.counted; stands = e.stands };
      parts = chain_parts (trees (sources_of (λ b. (goal.ProvideRegion-dyn g (b.vtable, b.value)).told_region b.value) (λ z. (goal.ClassifyRetry-dyn g z).repeated z.1) c.args.self.now)) e.part c.in-Ok.region e.reads;
    }
