-- The world's journal is the call's own, and what it kept stays without its records.
use Rattle.std.proofs.Common.{◌∙◌, ap}
use Rattle.std.specs.Prelude.{◌++◌}
use Rattle.cfg_chain.specs.Settings.{ChainSetting}
use Rattle.cfg_chain.specs.Views.{chain_of}
use Rattle.cfg_program.specs.Why.{told_as}
use Rattle.cfg_program.specs.Calls.{IsMade}
use Rattle.cfg_program.proofs.Calling.{one_call}
use Rattle.cfg_program.proofs.resolve.call.Goals as goal

pub returns-clause-call : goal.returns-clause-call
returns-clause-call g c =
    let over : ChainSetting = chain_of (λ z. (goal.ProvideCredentials-dyn g z).value z.1) (λ z. (goal.ClassifyRetry-dyn g z).repeated z.1) c.args.chain.now in
    let p = c.provide_credentials.ensures.provides c.in_ok-is_ok.ensures.memory in
    one_call (IsMade over) g.D.Devices (told_as over c.args.form) _ _ _ _ c.args.world.now c.clear_journal.new.self c.provide_credentials.new.world p.part c.provide_credentials.result c.in_ok-is_ok.is_ok _ _
    c.clear_journal.ensures p.grows.journal p.grows.same p.grows.stands p.call c.trim.ensures.kept c.in_ok-is_ok.ensures.credentials
    (c.in_ok-is_ok.ensures.line ∙ ap (λ j. c.args.lines.now.items ++ told_as over c.args.form c.provide_credentials.result j) c.journal.ensures)
