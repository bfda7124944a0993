-- The world is a new one over the lists.
use Rattle.std.proofs.Common.{◌≡◌, ◌∙◌, ap, subst, IfOk}
use Rattle.cfg_chain.specs.Settings.{ChainSetting}
use Rattle.cfg_chain.specs.Views.{chain_of}
use Rattle.cfg_program.specs.Explained.{Explains}
use Rattle.cfg_program.proofs.explain.explain_over.Goals as goal

pub returns : goal.returns
returns g c =
    let same : c.new-world.result.devices.lists ≡ c.args.lists = ap (λ w. w.devices.lists) c.new-world.ensures ∙ ap (λ d. d.lists) c.in_ok-devices.ensures in
    let over : ChainSetting = chain_of (λ z. (goal.ProvideCredentials-dyn g z).value z.1) (λ z. (goal.ClassifyRetry-dyn g z).repeated z.1) c.args.chain.now in
    subst (λ l. IfOk c.explain_call.result (λ a. Explains over l a.is_ok a.lines.items)) same c.explain_call.ensures
