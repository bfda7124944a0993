use Rattle.cfg_explain.proofs.OneReplay.{whole_exactly}
use Rattle.cfg_explain.proofs.laws.a_whole_call_is_told_exactly_where_there_is_one.Goals as goal

pub returns : goal.returns
returns c = λ over old new found answers told journal out t. whole_exactly over old answers new found told t journal out
