use Rattle.cfg_meta.proofs.OneCall.{one_call}
use Rattle.cfg_meta.proofs.laws.one_journal.Goals as goal

pub returns : goal.returns
returns g c = one_call g.M.Error.ChainError.rules (λ m. g.M.ChainMember.named m) (λ m. g.M.ChainMember.is_tree m) g.met.M.ChainMember.one_tree
