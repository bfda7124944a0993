use Rattle.cfg_kept.proofs.Beginnings.{one_beginning}
use Rattle.cfg_kept.proofs.laws.one_beginning.Goals as goal

pub returns : goal.returns
returns g c = λ tree old one other found more new newer. one_beginning tree old found more one other new newer
