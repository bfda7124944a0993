-- Where the first name cannot be used, the older one counts.
use Rattle.std.proofs.Common.{ap}
use Rattle.cfg_providers.specs.EnvironmentKeys.{secret_or, older_secret}
use Rattle.cfg_providers.proofs.EnvironmentSteps.{said_so}
use Rattle.cfg_providers.proofs.environment.credentials.secret_key.Goals as goal

pub returns-in-None : goal.returns-in-None
returns-in-None c = said_so _ c.required_variable.result _ _ (ap (λ o. secret_or o (older_secret c.args.env.now)) c.in-None.ensures) c.required_variable.ensures
