-- The profile has no region.
use Rattle.std.proofs.Common.{sym, ◌∙◌}
use Rattle.cfg_region.proofs.RegionSteps.{last_follows, others_follow}
use Rattle.cfg_region.proofs.default_provider.region.DefaultRegionChain.follow_profile.Goals as goal

pub returns-in-None : goal.returns-in-None
returns-in-None g c =
    others_follow _ _ _ _ _ c.follow_service.result (sym c.in_ok-region.ensures ∙ c.in-None.is)
    (last_follows _ _ _ _ c.follow_service.result c.follow_service.ensures)
