use Rattle.cfg_identity.proofs.CallLists.{found_lasts_or_of_chain}
use Rattle.cfg_identity.proofs.laws.shared_credentials_last_or_are_the_chains.Goals as goal

pub returns : goal.returns
returns g c = λ settings name over before later answer keys h is. found_lasts_or_of_chain g.D.Devices settings over before later answer keys h is
