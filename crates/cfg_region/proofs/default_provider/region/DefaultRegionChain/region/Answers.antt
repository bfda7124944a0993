-- The journal is the parts of the sources.
use Rattle.cfg_region.specs.Defaults.{default_tree, default_trees}
use Rattle.cfg_region.proofs.Chains.{chain_parts}
use Rattle.cfg_region.proofs.default_provider.region.DefaultRegionChain.region.Goals as goal

pub returns-in-Ok-clause-tells : goal.returns-in-Ok-clause-tells
unfolding default_tree
returns-in-Ok-clause-tells g c =
    let e = c.in-Ok.ensures in
    record {
      part = e.part;
      grows = record { journal = e.grows; fits = e.fits; same = e.same; counted = e.counted; stands = e.stands };
      parts = chain_parts (default_trees c.args.self.now) e.part c.in-Ok.region e.reads;
    }
