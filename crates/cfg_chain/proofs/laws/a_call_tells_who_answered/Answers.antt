use Rattle.cfg_chain.proofs.WhoAnswered.{tells_who}
use Rattle.cfg_chain.proofs.laws.a_call_tells_who_answered.Goals as goal

pub returns : goal.returns
returns g c = tells_who g.D.Devices
