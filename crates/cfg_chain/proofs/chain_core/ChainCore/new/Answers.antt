-- What is settled is what the configuration gives without the region.
use Rattle.cfg_chain.proofs.SetRegions.{settled_set}
use Rattle.cfg_chain.proofs.chain_core.ChainCore.new.Goals as goal

pub invariant_of-result : goal.invariant_of-result
invariant_of-result g c = settled_set _ _ _ _ _ _ c.in_ok-config.ensures.set c.in_ok-settled.ensures
