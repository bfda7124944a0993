use Rattle.cfg_script.specs.Script.{plain_audit}
use Rattle.cfg_script.specs.Audits.{audit_in}
use Rattle.cfg_script.proofs.Placing.{placed}
use Rattle.cfg_script.proofs.audits.WholeAuditObject.read_places.Goals as goal

pub returns : goal.returns
returns c = placed audit_in _ _ (plain_audit c.audit_by.result) c.in_ok-rows.ensures c.audit_by.ensures
