use Rattle.cfg_providers.proofs.EnvironmentFailures.{environment_cause, environment_not_loaded, environment_not_unicode}
use Rattle.cfg_providers.proofs.laws.the_environment_fails_by_one_variable.Goals as goal

pub returns-clause-cause : goal.returns-clause-cause
returns-clause-cause c = environment_cause

pub returns-clause-not_loaded : goal.returns-clause-not_loaded
returns-clause-not_loaded c = environment_not_loaded

pub returns-clause-not_unicode : goal.returns-clause-not_unicode
returns-clause-not_unicode c = environment_not_unicode
