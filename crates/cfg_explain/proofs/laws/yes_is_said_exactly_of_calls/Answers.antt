use Rattle.cfg_explain.proofs.OneVerdict.{yes_exactly}
use Rattle.cfg_explain.proofs.laws.yes_is_said_exactly_of_calls.Goals as goal

pub returns : goal.returns
returns c = λ over old new found journal out verdict j. yes_exactly over old journal new found out verdict j
