-- A name, and one exchange.
use Rattle.cfg_providers.proofs.RoleSteps.{role_assumed}
use Rattle.cfg_providers.proofs.assume_role.assume_role.Goals as goal

pub returns : goal.returns
returns g c =
    role_assumed c.args.settings.now c.args.role.now c.args.signer c.in_ok-name.name c.in_ok-request.request c.in_ok-answer.answer c.in_ok-answer-2.answer c.in_ok-outcome.outcome
    c.in_ok-name.ensures c.in_ok-request.ensures c.in_ok-answer.ensures c.in_ok-answer-2.ensures c.in_ok-outcome.ensures
