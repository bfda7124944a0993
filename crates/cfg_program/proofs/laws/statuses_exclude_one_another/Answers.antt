use Rattle.cfg_program.proofs.Excluded.{exclude_one_another}
use Rattle.cfg_program.proofs.laws.statuses_exclude_one_another.Goals as goal

pub returns : goal.returns
returns c = λ seen handed command one other. exclude_one_another handed seen command one other
