use Rattle.cfg_program.proofs.Excluded.{alike}
use Rattle.cfg_program.proofs.laws.runs_over_one_input_are_alike.Goals as goal

pub returns : goal.returns
returns c = λ one other handed command ended ended_other. alike handed one other command ended ended_other
