use Rattle.cfg_run.proofs.Askers.{one_member}
use Rattle.cfg_run.proofs.laws.one_member_asks.Goals as goal

pub returns : goal.returns
returns c = one_member
