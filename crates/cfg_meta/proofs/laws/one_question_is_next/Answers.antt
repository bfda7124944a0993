use Rattle.cfg_meta.proofs.NextQuestions.{one_question}
use Rattle.cfg_meta.proofs.laws.one_question_is_next.Goals as goal

pub returns : goal.returns
returns g c = one_question g.M.Error.ChainError.rules (λ m. g.M.ChainMember.named m) (λ m. g.M.ChainMember.is_tree m) g.met.M.ChainMember.one_tree
