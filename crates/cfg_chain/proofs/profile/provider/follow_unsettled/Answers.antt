-- The plan's base needs the key that the configuration needs.
use Rattle.cfg_chain.proofs.OnePlan.{key_planned}
use Rattle.cfg_chain.proofs.profile.provider.follow_unsettled.Goals as goal

pub follow_plan-requires : goal.follow_plan-requires
follow_plan-requires g c = key_planned c.args.call.now.config.now _ c.in-Ok.plan _ c.in-Ok.ensures c.requires
