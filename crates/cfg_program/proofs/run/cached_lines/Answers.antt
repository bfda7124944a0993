-- The script was read, its calls were made, and their lines were written, as far as the sink took them; or there is none.
use Rattle.std.proofs.Common.{refl}
use Rattle.cfg_script.specs.Script.{plain}
use Rattle.cfg_program.proofs.Endings.{lines_end, unread_ends}
use Rattle.cfg_program.proofs.run.cached_lines.Goals as goal

pub returns-in-Ok-cached : goal.returns-in-Ok-cached
returns-in-Ok-cached g c =
    lines_end _ _ _ _ (plain c.in-Ok.script) c.in-Ok-cached.answered.is_ok c.in-Ok-cached.answered.lines.items c.write_lines.result
    c.in-Ok.ensures.read c.in-Ok-cached.ensures c.write_lines.ensures

pub returns-in-Err : goal.returns-in-Err
returns-in-Err g c = unread_ends _ _ _ _ c.in-Err.ended c.in-Err.ensures.read refl
