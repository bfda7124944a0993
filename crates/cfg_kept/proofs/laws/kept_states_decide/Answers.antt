use Rattle.cfg_kept.proofs.Told.{told, told_back}
use Rattle.cfg_kept.proofs.laws.kept_states_decide.Goals as goal

pub returns : goal.returns
returns g c = λ tree old found journal out new. (told tree old new found journal out, told_back tree old new found journal out)
