-- A name, the file, and one exchange.
use Rattle.cfg_providers.proofs.IdentitySteps.{identity_assumed}
use Rattle.cfg_providers.proofs.web_identity_token.assume_by_web_identity.Goals as goal

pub returns : goal.returns
returns g c =
    identity_assumed c.args.config.now c.args.base.now c.args.identity.now c.args.policies.now c.in_ok-name.name c.in_ok-token.token c.in_ok-outcome.outcome
    c.in_ok-name.ensures c.in_ok-token.ensures c.in_ok-outcome.ensures
