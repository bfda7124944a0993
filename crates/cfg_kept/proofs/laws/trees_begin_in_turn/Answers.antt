use Rattle.cfg_kept.proofs.Beginnings.{begins_splits, begins_joins}
use Rattle.cfg_kept.proofs.laws.trees_begin_in_turn.Goals as goal

pub returns : goal.returns
returns g c = λ first second old found journal new. (begins_splits first second old new found journal, begins_joins first second old new found journal)
