-- The names are those of the chain's sources.
use Rattle.std.proofs.Common.{◌≡◌, ◌∙◌, ap, map, subst, IfOk}
use Rattle.cfg_providers.specs.CustomSources.{named}
use Rattle.cfg_chain.specs.Settings.{ChainSetting, names_of}
use Rattle.cfg_chain.specs.Views.{of_box, chain_of}
use Rattle.cfg_chain.specs.profile.Plans.{plan}
use Rattle.cfg_explain.specs.Reasons.{without_plan}
use Rattle.cfg_explain.proofs.reasons.without_plan.Goals as goal

pub returns : goal.returns
returns g c =
    let over : ChainSetting = chain_of (λ z. (goal.ProvideCredentials-dyn g z).value z.1) (λ z. (goal.ClassifyRetry-dyn g z).repeated z.1) c.args.chain.now in
    let names : c.as_slice-2.result.now ≡ names_of over.sources =
    c.as_slice-2.ensures.value ∙ c.in_ok-names.ensures ∙ ap (λ s. map (λ x. x.0) (map (named (of_box (λ z. (goal.ProvideCredentials-dyn g z).value z.1))) s)) c.as_slice.ensures.value in
    subst (λ n. IfOk c.without_plan_among.result (λ e. e ≡ without_plan (plan c.args.chain.now.core n))) names
    (subst (λ k. IfOk c.without_plan_among.result (λ e. e ≡ without_plan (plan k c.as_slice-2.result.now))) c.config.ensures c.without_plan_among.ensures)
