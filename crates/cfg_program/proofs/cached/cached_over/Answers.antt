-- The world is a new one over the lists, and nothing is held and kept.
use Rattle.std.proofs.Common.{◌≡◌, ◌∙◌, None, ap, subst}
use Rattle.cfg_chain.specs.Settings.{ChainSetting}
use Rattle.cfg_chain.specs.Views.{chain_of}
use Rattle.cfg_identity.specs.NameStates.{nothing_loaded}
use Rattle.cfg_kept.specs.Kinds.{States}
use Rattle.cfg_program.specs.declared.causes.Below.TheVariants.{Nothing}
use Rattle.cfg_program.specs.declared.lines.LineForm.TheVariants.{Call}
use Rattle.cfg_program.specs.Cached.{IsCachedCall}
use Rattle.cfg_program.specs.Lines.{shown_as}
use Rattle.cfg_program.specs.Calls.{AnswersFrom}
use Rattle.cfg_program.proofs.Calling.{all_made}
use Rattle.cfg_program.proofs.cached.cached_over.Goals as goal

pub returns : goal.returns
returns g c =
    let devices = ap (λ w. w.devices) c.new-world.ensures in
    let same : c.new-world.result.devices.lists ≡ c.args.lists = ap (λ d. d.lists) (devices ∙ c.in_ok-devices.ensures) in
    let over : ChainSetting = chain_of (λ z. (goal.ProvideCredentials-dyn g z).value z.1) (λ z. (goal.ClassifyRetry-dyn g z).repeated z.1) c.args.chain.now in
    let nothing = c.new-loaded.ensures.state ∙ ap (λ (s : States). record { held = None; states = s }) c.in_ok-kept.ensures.nothing in
    let m = c.in_ok-is_ok.ensures in
    subst (λ l. AnswersFrom (IsCachedCall over) nothing_loaded l c.args.count (shown_as (Call Nothing)) c.in_ok-is_ok.is_ok c.calls.new.lines.items) same
    (all_made (IsCachedCall over) (shown_as (Call Nothing)) c.new-world.result.devices c.calls.new.world.devices nothing_loaded _ _ _ _ _ _
    m.calls m.counted m.made m.same m.stands m.credentials m.shows
    (ap (λ d. d.place) (devices ∙ c.in_ok-devices.ensures)) nothing c.new-lines.ensures.items)
