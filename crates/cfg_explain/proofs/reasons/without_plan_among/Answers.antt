-- The plan is refused by this error.
use Rattle.cfg_chain.specs.profile.Plans.{plan}
use Rattle.cfg_explain.proofs.RefusedPlans.{not_planned}
use Rattle.cfg_explain.proofs.reasons.without_plan_among.Goals as goal

pub returns-in-Err-Refused : goal.returns-in-Err-Refused
returns-in-Err-Refused c =
    let refused = rw c.in-Err-Refused.field-0-is at c.in-Err-Refused.ensures in
    not_planned (plan c.args.config.now c.args.sources.now) c.in-Err-Refused.error c.not_planned.result refused c.not_planned.ensures
