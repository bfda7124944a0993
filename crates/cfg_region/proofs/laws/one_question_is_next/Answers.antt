use Rattle.cfg_region.proofs.BegunChains.{ended_or_one}
use Rattle.cfg_region.proofs.laws.one_question_is_next.Goals as goal

pub returns : goal.returns
returns g c = λ trees. ended_or_one trees
