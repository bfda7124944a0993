use Rattle.cfg_world.proofs.Beginnings.{begins_whole}
use Rattle.cfg_world.proofs.laws.a_beginning_is_a_prefix.Goals as goal

pub returns : goal.returns
returns g c = λ inquiry. begins_whole inquiry
