use Rattle.cfg_region.proofs.OneSource.{one_source}
use Rattle.cfg_region.proofs.laws.a_configuration_asks_one_source.Goals as goal

pub returns : goal.returns
returns c = one_source
