use Rattle.cfg_profile.proofs.PlanLaws.{the_chain}
use Rattle.cfg_profile.proofs.laws.one_chain.Goals as goal

pub returns : goal.returns
returns c = the_chain
