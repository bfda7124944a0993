use Rattle.cfg_sso.proofs.SsoCauses.{sso_cause, bearer_cause}
use Rattle.cfg_sso.proofs.laws.answers_have_their_causes.Goals as goal

pub returns-clause-credentials : goal.returns-clause-credentials
returns-clause-credentials c = sso_cause

pub returns-clause-token : goal.returns-clause-token
returns-clause-token c = bearer_cause
