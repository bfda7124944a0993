-- The world's journal is the call's own.
use Rattle.std.proofs.Common.{◌∙◌, ap, refl}
use Rattle.std.specs.Prelude.{◌++◌}
use Rattle.cfg_chain.specs.Settings.{ChainSetting}
use Rattle.cfg_chain.specs.Views.{chain_of}
use Rattle.cfg_identity.specs.NameStates.{state_of}
use Rattle.cfg_program.specs.declared.causes.Below.TheVariants.{Nothing}
use Rattle.cfg_program.specs.declared.lines.LineForm.TheVariants.{Call}
use Rattle.cfg_program.specs.Cached.{IsCachedCall}
use Rattle.cfg_program.specs.Lines.{shown_as}
use Rattle.cfg_program.proofs.Calling.{one_call}
use Rattle.cfg_program.proofs.cached.call.Goals as goal

pub returns-clause-call : goal.returns-clause-call
returns-clause-call g c =
    let over : ChainSetting = chain_of (λ z. (goal.ProvideCredentials-dyn g z).value z.1) (λ z. (goal.ClassifyRetry-dyn g z).repeated z.1) c.args.chain.now in
    let answered = c.resolve.ensures.caches c.in_ok-is_ok.ensures.memory in
    let p = answered.1 in
    one_call (IsCachedCall over) g.D.Devices (shown_as (Call Nothing)) (state_of c.args.loaded.now) (state_of c.resolve.new.self) (state_of c.resolve.new.self) answered.0
    c.args.world.now c.clear_journal.new.self c.resolve.new.world p.part c.resolve.result c.in_ok-is_ok.is_ok _ _
    c.clear_journal.ensures p.grows.journal p.grows.same p.grows.stands p.call refl c.in_ok-is_ok.ensures.credentials
    (c.in_ok-is_ok.ensures.line ∙ ap (λ j. c.args.lines.now.items ++ shown_as (Call Nothing) c.resolve.result j) c.journal.ensures)
