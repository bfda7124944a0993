-- The plan is made by the names of the chain's sources.
use Rattle.std.proofs.Common.{map, sym, ap, ◌∙◌}
use Rattle.cfg_chain.specs.Views.{of_box}
use Rattle.cfg_chain.specs.profile.Plans.{plan}
use Rattle.cfg_providers.specs.CustomSources.{NamedAnswer, named}
use Rattle.cfg_run.proofs.RoleSteps.{names_same}
use Rattle.cfg_run.proofs.planned.planned_roles.Goals as goal

pub returns-in-Ok-clause-plan : goal.returns-in-Ok-clause-plan
returns-in-Ok-clause-plan g c =
    let value = of_box (λ z. (goal.ProvideCredentials-dyn g z).value z.1) in
    let chain = c.args.chain.now in
    sym c.in-Ok.ensures ∙ ap (λ conf. plan conf c.as_slice-2.result.now) c.config-config.ensures
    ∙ ap (plan chain.core) (c.as_slice-2.ensures.value ∙ c.in_ok-names.ensures ∙ ap (λ xs. map (λ (s : NamedAnswer). s.0) (map (named value) xs)) c.as_slice.ensures.value ∙ sym (names_same value chain.custom_sources.items))
