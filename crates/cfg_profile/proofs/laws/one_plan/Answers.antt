use Rattle.cfg_profile.proofs.PlanLaws.{the_plan}
use Rattle.cfg_profile.proofs.laws.one_plan.Goals as goal

pub returns : goal.returns
returns c = the_plan
