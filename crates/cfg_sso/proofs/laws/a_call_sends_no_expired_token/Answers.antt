use Rattle.cfg_sso.proofs.RoleRequests.{sends_once}
use Rattle.cfg_sso.proofs.BegunRequests.{begun_sends}
use Rattle.cfg_sso.proofs.laws.a_call_sends_no_expired_token.Goals as goal

pub returns-clause-answered : goal.returns-clause-answered
returns-clause-answered g c = λ conf sso old new before later out call. sends_once conf sso call.ends.found call.ends.part out call.cause

pub returns-clause-interrupted : goal.returns-clause-interrupted
returns-clause-interrupted g c = λ conf sso old new before later call. begun_sends conf sso before.kept later.kept call.found call.part call.begins
