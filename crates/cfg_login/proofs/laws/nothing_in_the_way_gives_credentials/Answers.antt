use Rattle.cfg_login.proofs.SignInCauses.{sign_in_cause}
use Rattle.cfg_login.proofs.InTime.{nothing_in_the_way}
use Rattle.cfg_login.proofs.laws.nothing_in_the_way_gives_credentials.Goals as goal

pub returns : goal.returns
returns c = λ conf session by found part out reads. nothing_in_the_way conf session by found part out (sign_in_cause conf session by found part out reads)
