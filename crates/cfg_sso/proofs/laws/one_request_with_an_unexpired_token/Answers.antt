use Rattle.cfg_sso.proofs.SsoCauses.{sso_cause}
use Rattle.cfg_sso.proofs.RoleRequests.{sends_once}
use Rattle.cfg_sso.proofs.BegunRequests.{begun_sends}
use Rattle.cfg_sso.proofs.laws.one_request_with_an_unexpired_token.Goals as goal

pub returns-clause-whole : goal.returns-clause-whole
returns-clause-whole c = λ conf sso found part out reads. sends_once conf sso found part out (sso_cause conf sso found part out reads)

pub returns-clause-begun : goal.returns-clause-begun
returns-clause-begun c = begun_sends
