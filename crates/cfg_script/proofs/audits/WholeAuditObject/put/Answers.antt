use Rattle.std.proofs.Common.{ap, Ok}
use Rattle.cfg_base.specs.Gives.{◌>>=◌}
use Rattle.cfg_script.specs.Audits.{audit_in}
use Rattle.cfg_script.proofs.audits.WholeAuditObject.put.Goals as goal

pub returns-clause-put : goal.returns-clause-put
returns-clause-put c = λ ms. ap (λ r. r >>= λ rows. Ok (audit_in rows)) (c.put.ensures.put ms)
