use Rattle.cfg_identity.proofs.CallLists.{lasts_or_of_chain}
use Rattle.cfg_identity.proofs.laws.credentials_last_or_are_the_chains.Goals as goal

pub returns : goal.returns
returns g c = λ settings over old new found before later keys h. lasts_or_of_chain g.D.Devices settings over old new found before later keys h
