use Rattle.cfg_kept.proofs.Agreeing.{one_run}
use Rattle.cfg_kept.proofs.laws.one_journal.Goals as goal

pub returns : goal.returns
returns g c = λ tree old one other found more x y new newer. one_run tree old found more one other x y new newer
