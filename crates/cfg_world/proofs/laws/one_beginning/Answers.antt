use Rattle.cfg_world.proofs.Beginnings.{one_beginning}
use Rattle.cfg_world.proofs.laws.one_beginning.Goals as goal

pub returns : goal.returns
returns g c = λ inquiry. one_beginning inquiry
