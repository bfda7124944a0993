use Rattle.cfg_kept.proofs.Splits.{lowered, lifted_nothing}
use Rattle.cfg_kept.proofs.laws.inquiries_find_nothing.Goals as goal

pub returns : goal.returns
returns g c = λ inquiry found journal out. (lowered inquiry found journal out, lifted_nothing inquiry found journal out)
