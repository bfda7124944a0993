use Rattle.cfg_world.proofs.Beginnings.{begun_splits, begun_joins}
use Rattle.cfg_world.proofs.laws.inquiries_begin_in_turn.Goals as goal

pub returns : goal.returns
returns g c = λ first second journal. (begun_splits first second journal, begun_joins first second journal)
