-- The script was read, its journal was audited, and the line was written, as far as the sink took it; or there is none.
use Rattle.std.proofs.Common.{refl}
use Rattle.cfg_script.specs.Script.{plain_audit}
use Rattle.cfg_program.proofs.Endings.{lines_end, unread_ends}
use Rattle.cfg_program.proofs.run.audit_line.Goals as goal

pub returns-in-Ok-audit : goal.returns-in-Ok-audit
returns-in-Ok-audit g c =
    lines_end _ _ _ _ (plain_audit c.in-Ok.script) c.in-Ok-audit.answered.is_ok c.in-Ok-audit.answered.lines.items c.write_lines.result
    c.in-Ok.ensures c.in-Ok-audit.ensures c.write_lines.ensures

pub returns-in-Err : goal.returns-in-Err
returns-in-Err g c = unread_ends _ _ _ _ c.in-Err.ended c.in-Err.ensures refl
