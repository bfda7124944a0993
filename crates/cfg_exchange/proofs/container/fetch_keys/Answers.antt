-- The last answer decides.
use Rattle.std.proofs.Common.{ap, ◌∙◌}
use Rattle.cfg_exchange.proofs.ContainerSteps.{fetched_ends}
use Rattle.cfg_exchange.proofs.container.fetch_keys.Goals as goal

pub returns : goal.returns
returns g c =
    let ended = rw c.in_ok-receipt.was at c.attempt.ensures.follows in
    let keys = rw c.in_ok-outcome.was at c.answer_keys.ensures in
    fetched_ends c.args.settings.now c.args.token c.args.target c.request-call.result c.in_ok-receipt.receipt c.answer.result.now c.in_ok-outcome.outcome
    c.request-call.ensures ended (c.answer.ensures.is ∙ ap (λ e. e.1) c.entry.ensures) keys
