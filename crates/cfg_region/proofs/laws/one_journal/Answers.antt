use Rattle.cfg_region.proofs.Chains.{one_region}
use Rattle.cfg_region.proofs.laws.one_journal.Goals as goal

pub returns : goal.returns
returns g c = λ trees. one_region trees
