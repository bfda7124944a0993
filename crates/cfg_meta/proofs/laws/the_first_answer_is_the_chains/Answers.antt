use Rattle.cfg_meta.proofs.FirstAnswers.{first_answer}
use Rattle.cfg_meta.proofs.laws.the_first_answer_is_the_chains.Goals as goal

pub returns : goal.returns
returns g c = first_answer g.M.Error.ChainError.rules (λ m. g.M.ChainMember.named m) (λ m. g.M.ChainMember.is_tree m)
