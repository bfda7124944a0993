use Rattle.cfg_kept.proofs.Beginnings.{whole_or_one}
use Rattle.cfg_kept.proofs.laws.one_question_is_next.Goals as goal

pub returns : goal.returns
returns g c = λ tree. whole_or_one tree
