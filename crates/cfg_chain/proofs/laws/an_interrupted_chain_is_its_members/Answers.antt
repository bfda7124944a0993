use Rattle.cfg_kept.proofs.ChainParts.{chain_begun, begun_chain}
use Rattle.cfg_chain.proofs.laws.an_interrupted_chain_is_its_members.Goals as goal

pub returns : goal.returns
returns g c = λ chain members attempts old new found journal. (chain_begun chain members attempts old new found journal, begun_chain chain members attempts old new found journal)
