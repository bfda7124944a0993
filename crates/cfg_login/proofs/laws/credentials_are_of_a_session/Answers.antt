use Rattle.cfg_login.proofs.SignInCauses.{sign_in_cause}
use Rattle.cfg_login.proofs.SessionKeys.{credentials_of_session}
use Rattle.cfg_login.proofs.laws.credentials_are_of_a_session.Goals as goal

pub returns : goal.returns
returns c = λ conf session by found part out finds reads. credentials_of_session conf session by found part out finds (sign_in_cause conf session by found part out reads)
