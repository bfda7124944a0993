use Rattle.cfg_identity.proofs.CallLists.{own_of_all}
use Rattle.cfg_identity.proofs.laws.each_name_has_its_own_calls.Goals as goal

pub returns : goal.returns
returns g c = λ settings old calls new h name. own_of_all g.D.Devices settings old calls new h name
