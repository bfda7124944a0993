-- What is settled is the plan, and its base needs the key that the configuration needs.
use Rattle.std.proofs.Common.{[], sym, ◌∙◌}
use Rattle.cfg_chain.proofs.OnePlan.{settled_is_plan, key_planned}
use Rattle.cfg_chain.proofs.ProfileSteps.{settled_follows}
use Rattle.cfg_chain.proofs.profile.provider.follow_profile.Goals as goal

pub follow_plan-requires : goal.follow_plan-requires
follow_plan-requires g c =
    let conf = c.args.call.now.config.now in
    key_planned conf [] c.in-Some.plan _ (settled_is_plan conf [] c.in-Some.plan (sym c.requires.settled.plan ∙ c.in-Some.is)) c.requires.key

pub returns-in-Some-clause-follows : goal.returns-in-Some-clause-follows
returns-in-Some-clause-follows g c = settled_follows _ _ c.in-Some.plan _ _ _ _ _ (sym c.requires.settled.plan ∙ c.in-Some.is) c.follow_plan.ensures.follows
