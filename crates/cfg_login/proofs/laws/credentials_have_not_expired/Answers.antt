use Rattle.cfg_login.proofs.SignInCauses.{sign_in_cause}
use Rattle.cfg_login.proofs.LastReadings.{credentials_last}
use Rattle.cfg_login.proofs.laws.credentials_have_not_expired.Goals as goal

pub returns : goal.returns
returns c = λ conf session by found part out fits reads. credentials_last conf session by found part out fits (sign_in_cause conf session by found part out reads)
