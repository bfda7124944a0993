-- The world is a new one over the lists, and nothing is kept.
use Rattle.std.proofs.Common.{◌≡◌, ◌∙◌, ap, subst}
use Rattle.cfg_kept.specs.Kinds.{no_states}
use Rattle.cfg_chain.specs.Views.{chain_of}
use Rattle.cfg_program.specs.Why.{told_as}
use Rattle.cfg_program.specs.Calls.{AnswersOver, IsMade}
use Rattle.cfg_program.proofs.Calling.{all_made}
use Rattle.cfg_program.proofs.resolve.answer_over.Goals as goal

pub returns : goal.returns
returns g c =
    let devices = ap (λ w. w.devices) c.new-world.ensures in
    let same : c.new-world.result.devices.lists ≡ c.args.lists = ap (λ d. d.lists) (devices ∙ c.in_ok-devices.ensures) in
    let over = chain_of (λ z. (goal.ProvideCredentials-dyn g z).value z.1) (λ z. (goal.ClassifyRetry-dyn g z).repeated z.1) c.args.chain.now in
    let m = c.in_ok-is_ok.ensures.calls in
    subst (λ l. AnswersOver over l c.args.count c.args.form c.in_ok-is_ok.is_ok c.calls.new.lines.items) same
    (all_made (IsMade over) (told_as over c.args.form) c.new-world.result.devices c.calls.new.world.devices no_states _ _ _ _ _ _ m.calls m.counted m.made m.same m.stands m.credentials m.shows
    (ap (λ d. d.place) (devices ∙ c.in_ok-devices.ensures)) c.in_ok-kept.ensures.nothing c.new-lines.ensures.items)
