-- The plan that the path gives is the only one.
use Rattle.cfg_chain.proofs.OnePlan.{the_one, refused}
use Rattle.cfg_chain.proofs.profile.plan.plan_in.Goals as goal

pub returns-in-Ok : goal.returns-in-Ok
returns-in-Ok c = the_one c.args.set.now c.args.name.now c.args.sources.now _ c.in-Ok.ensures

pub returns-in_default : goal.returns-in_default
returns-in_default c = refused c.args.set.now c.args.name.now c.args.sources.now c.in-Err.error c.in_default.not-OutOfMemory c.in-Err.ensures
