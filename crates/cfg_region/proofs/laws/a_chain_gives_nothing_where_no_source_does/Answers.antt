use Rattle.cfg_region.proofs.Chains.{none_gives, gives_none}
use Rattle.cfg_region.proofs.laws.a_chain_gives_nothing_where_no_source_does.Goals as goal

pub returns : goal.returns
returns g c = λ trees journal. (none_gives trees journal, gives_none trees journal)
