use Rattle.cfg_world.proofs.Agreeing.{one_script_one_journal}
use Rattle.cfg_world.proofs.laws.one_script_one_journal.Goals as goal

pub returns : goal.returns
returns g c = λ inquiry. one_script_one_journal inquiry
