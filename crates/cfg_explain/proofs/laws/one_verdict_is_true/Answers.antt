use Rattle.cfg_explain.proofs.OneVerdict.{one_verdict}
use Rattle.cfg_explain.proofs.laws.one_verdict_is_true.Goals as goal

pub returns : goal.returns
returns c = λ over old new newer found more journal out verdict also j k. one_verdict over old journal new newer found more out verdict also j k
