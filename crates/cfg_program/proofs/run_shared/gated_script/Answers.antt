-- The script was read, its callers' sections were made, and their lines were written, as far as the sink took them; or there is none.
use Rattle.std.proofs.Common.{refl}
use Rattle.cfg_script.specs.Script.{plain_share}
use Rattle.cfg_program.proofs.Endings.{lines_end, unread_ends}
use Rattle.cfg_program.proofs.run_shared.gated_script.Goals as goal

pub returns-in-Ok-gated : goal.returns-in-Ok-gated
returns-in-Ok-gated g c =
    lines_end _ _ _ _ (plain_share c.in-Ok.script) c.in-Ok-gated.answered.is_ok c.in-Ok-gated.answered.lines.items c.write_lines.result
    c.in-Ok.ensures.read c.in-Ok-gated.ensures c.write_lines.ensures

pub returns-in-Err : goal.returns-in-Err
returns-in-Err g c = unread_ends _ _ _ _ c.in-Err.ended c.in-Err.ensures.read refl
