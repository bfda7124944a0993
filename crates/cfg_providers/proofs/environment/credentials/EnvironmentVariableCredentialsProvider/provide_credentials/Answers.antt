-- The answer is the environment's, and so it has its cause.
use Rattle.std.proofs.Common.{ap, sym, ◌∙◌}
use Rattle.std.specs.Result.{result_err}
use Rattle.cfg_providers.proofs.EnvironmentFailures.{environment_cause}
use Rattle.cfg_providers.proofs.environment.credentials.EnvironmentVariableCredentialsProvider.provide_credentials.Goals as goal

pub returns-clause-cause : goal.returns-clause-cause
returns-clause-cause g c = λ other. ap result_err (sym (c.answer.ensures other)) ∙ environment_cause c.args.self.now
