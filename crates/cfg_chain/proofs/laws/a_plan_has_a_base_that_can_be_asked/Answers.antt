use Rattle.cfg_chain.proofs.PlannedBases.{can_be_asked}
use Rattle.cfg_chain.proofs.laws.a_plan_has_a_base_that_can_be_asked.Goals as goal

pub returns : goal.returns
returns c = can_be_asked
