-- The script was read, its call was made, and the line was written, as far as the sink took it; or there is none.
use Rattle.std.proofs.Common.{refl}
use Rattle.cfg_script.specs.Script.{plain}
use Rattle.cfg_program.proofs.Endings.{lines_end, unread_ends}
use Rattle.cfg_program.proofs.run.explain_lines.Goals as goal

pub returns-in-Ok-explain : goal.returns-in-Ok-explain
returns-in-Ok-explain g c =
    lines_end _ _ _ _ (plain c.in-Ok.script) c.in-Ok-explain.answered.is_ok c.in-Ok-explain.answered.lines.items c.write_lines.result
    c.in-Ok.ensures.read c.in-Ok-explain.ensures c.write_lines.ensures

pub returns-in-Err : goal.returns-in-Err
returns-in-Err g c = unread_ends _ _ _ _ c.in-Err.ended c.in-Err.ensures.read refl
