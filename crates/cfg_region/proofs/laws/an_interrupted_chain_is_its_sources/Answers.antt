use Rattle.cfg_region.proofs.Chains.{chain_begun, begun_chain}
use Rattle.cfg_region.proofs.laws.an_interrupted_chain_is_its_sources.Goals as goal

pub returns : goal.returns
returns g c = λ trees journal. (chain_begun trees journal, begun_chain trees journal)
