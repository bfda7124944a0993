-- What is left of the roles is what is left of the call.
use Rattle.std.proofs.Common.{sym, ap, ◌∙◌, subst}
use Rattle.cfg_chain.specs.Settings.{ChainSetting}
use Rattle.cfg_chain.specs.Views.{chain_of, of_box}
use Rattle.cfg_chain.specs.profile.Plans.{plan}
use Rattle.cfg_run.specs.Roles.{AreLeft}
use Rattle.cfg_run.proofs.RoleSteps.{names_same, left_of_call}
use Rattle.cfg_run.proofs.run.next_role.Goals as goal

pub next_of_roles-requires : goal.next_of_roles-requires
next_of_roles-requires g c =
    let over : ChainSetting = chain_of (λ z. (goal.ProvideCredentials-dyn g z).value z.1) (λ z. (goal.ClassifyRetry-dyn g z).repeated z.1) c.args.chain.now in
    let s = c.args.progress.now in
    let names = names_same (of_box (λ z. (goal.ProvideCredentials-dyn g z).value z.1)) c.args.chain.now.custom_sources.items in
    let left = left_of_call over c.args.planned.now.settings c.args.planned.now.plan s.base s.kept s.found s.asked c.args.last (ap (plan over.configuration) (sym names) ∙ sym c.requires.plan) c.requires.settings c.requires.last c.requires.place in
    subst (λ j. AreLeft c.args.planned.now.settings c.args.planned.now.plan.roles j c.args.last) (sym c.asked.ensures) left.left

pub returns-in-Asks-clause-comes : goal.returns-in-Asks-clause-comes
returns-in-Asks-clause-comes g c =
    let over : ChainSetting = chain_of (λ z. (goal.ProvideCredentials-dyn g z).value z.1) (λ z. (goal.ClassifyRetry-dyn g z).repeated z.1) c.args.chain.now in
    let s = c.args.progress.now in
    let names = names_same (of_box (λ z. (goal.ProvideCredentials-dyn g z).value z.1)) c.args.chain.now.custom_sources.items in
    let left = left_of_call over c.args.planned.now.settings c.args.planned.now.plan s.base s.kept s.found s.asked c.args.last (ap (plan over.configuration) (sym names) ∙ sym c.requires.plan) c.requires.settings c.requires.last c.requires.place in
    left.asks c.in-Asks.question ((rw (c.asked.ensures, c.in-Asks.is) at c.in_ok-next.ensures) left.left)

pub returns-in-Gives-clause-comes : goal.returns-in-Gives-clause-comes
returns-in-Gives-clause-comes g c =
    let over : ChainSetting = chain_of (λ z. (goal.ProvideCredentials-dyn g z).value z.1) (λ z. (goal.ClassifyRetry-dyn g z).repeated z.1) c.args.chain.now in
    let s = c.args.progress.now in
    let names = names_same (of_box (λ z. (goal.ProvideCredentials-dyn g z).value z.1)) c.args.chain.now.custom_sources.items in
    let left = left_of_call over c.args.planned.now.settings c.args.planned.now.plan s.base s.kept s.found s.asked c.args.last (ap (plan over.configuration) (sym names) ∙ sym c.requires.plan) c.requires.settings c.requires.last c.requires.place in
    left.gives c.in-Gives.answer ((rw (c.asked.ensures, c.in-Gives.is) at c.in_ok-next.ensures) left.left)
