use Rattle.cfg_login.proofs.SignInCauses.{sign_in_cause, never_not_loaded}
use Rattle.cfg_login.proofs.laws.answers_have_their_causes.Goals as goal

pub returns-clause-loaded : goal.returns-clause-loaded
returns-clause-loaded c = λ conf session by found part out reads. never_not_loaded conf session by found part out (sign_in_cause conf session by found part out reads)

pub returns-clause-cause : goal.returns-clause-cause
returns-clause-cause c = sign_in_cause
