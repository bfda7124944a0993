use Rattle.cfg_explain.proofs.ReasonsOfCalls.{reasons_of_call}
use Rattle.cfg_explain.proofs.laws.reasons_are_those_of_the_call.Goals as goal

pub returns : goal.returns
returns c = λ over old new found journal out call. reasons_of_call over old new found journal out call
