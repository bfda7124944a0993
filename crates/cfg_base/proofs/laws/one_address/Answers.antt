use Rattle.cfg_base.proofs.AddressLaws.{one_address}
use Rattle.cfg_base.proofs.laws.one_address.Goals as goal

pub returns : goal.returns
returns c = one_address
