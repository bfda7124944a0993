use Rattle.cfg_kept.proofs.ChainParts.{chain_parts, parts_chain}
use Rattle.cfg_chain.proofs.laws.a_chain_is_its_members.Goals as goal

pub returns : goal.returns
returns g c = λ chain members attempts found journal out. (chain_parts chain members attempts found journal out, parts_chain chain members attempts found journal out)
