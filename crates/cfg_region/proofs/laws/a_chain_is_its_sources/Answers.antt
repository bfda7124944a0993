use Rattle.cfg_region.proofs.Chains.{chain_parts, parts_chain}
use Rattle.cfg_region.proofs.laws.a_chain_is_its_sources.Goals as goal

pub returns : goal.returns
returns g c = λ trees journal out. (chain_parts trees journal out, parts_chain trees journal out)
