use Rattle.cfg_explain.proofs.OneReplay.{one_replay}
use Rattle.cfg_explain.proofs.laws.one_replay_is_true.Goals as goal

pub returns : goal.returns
returns c = λ over old new newer found more answers told also t u. one_replay over old answers new newer found more told also t u
