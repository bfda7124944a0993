use Rattle.cfg_explain.proofs.OneOwner.{owners_exactly}
use Rattle.cfg_explain.proofs.laws.owners_are_told_exactly_of_calls.Goals as goal

pub returns : goal.returns
returns c = λ over old new newer found more journal out verdict names j o. owners_exactly over old journal new newer found more out verdict names j o
