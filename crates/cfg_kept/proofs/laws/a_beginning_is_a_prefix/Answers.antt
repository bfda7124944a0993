use Rattle.cfg_kept.proofs.Beginnings.{begins_whole}
use Rattle.cfg_kept.proofs.laws.a_beginning_is_a_prefix.Goals as goal

pub returns : goal.returns
returns g c = λ tree old one other found more x new newer. begins_whole tree old found more one other x new newer
