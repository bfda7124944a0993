-- The base, and then the roles.
use Rattle.cfg_chain.proofs.ProfileSteps.{planned_ends}
use Rattle.cfg_chain.proofs.profile.provider.follow_plan.Goals as goal

pub returns-clause-follows : goal.returns-clause-follows
returns-clause-follows g c =
    let keys = rw c.in-Ok.is at c.in_ok-keys.ensures.follows in
    let roles = rw c.as_slice.ensures at c.in_ok-outcome.ensures in
    planned_ends _ _ c.args.plan.now _ _ _ _ _ _ _ keys roles
