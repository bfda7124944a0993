-- The variables name no region.
use Rattle.std.proofs.Common.{sym, ap, ◌∙◌}
use Rattle.cfg_region.specs.Defaults.{DefaultRegions, default_tree}
use Rattle.cfg_region.specs.Environments.{environment_region}
use Rattle.cfg_region.proofs.RegionSteps.{others_follow}
use Rattle.cfg_region.proofs.default_provider.region.DefaultRegionChain.follow.Goals as goal

pub returns-in-None : goal.returns-in-None
unfolding default_tree
returns-in-None g c =
    others_follow _ _ _ _ _ c.follow_profile.result
    (ap (λ d. let chain : DefaultRegions = d in environment_region chain.configuration.environment) (sym c.self.view_is) ∙ ap environment_region (sym c.env.ensures) ∙ sym c.in_ok-region.ensures ∙ c.in-None.is)
    c.follow_profile.ensures
