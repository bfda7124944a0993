use Rattle.cfg_world.proofs.Agreeing.{one_journal}
use Rattle.cfg_world.proofs.laws.one_journal.Goals as goal

pub returns : goal.returns
returns g c = λ inquiry one other x y. one_journal inquiry one other x y
