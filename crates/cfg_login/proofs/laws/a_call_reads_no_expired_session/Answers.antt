use Rattle.cfg_login.proofs.LastReadings.{credentials_last}
use Rattle.cfg_login.proofs.laws.a_call_reads_no_expired_session.Goals as goal

pub returns : goal.returns
returns g c = λ conf session by old new before later out call. credentials_last conf session by call.ends.found call.ends.part out call.ends.fits call.cause
