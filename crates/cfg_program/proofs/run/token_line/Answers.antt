-- The script was read, its call was made, and the line was written, as far as the sink took it; or there is none.
use Rattle.std.proofs.Common.{refl}
use Rattle.cfg_script.specs.Script.{plain}
use Rattle.cfg_program.proofs.Endings.{lines_end, unread_ends}
use Rattle.cfg_program.proofs.run.token_line.Goals as goal

pub returns-in-Ok-find_token : goal.returns-in-Ok-find_token
returns-in-Ok-find_token g c =
    lines_end _ _ _ _ (plain c.in-Ok.script) c.in-Ok-find_token.answered.is_ok c.in-Ok-find_token.answered.lines.items c.write_lines.result
    c.in-Ok.ensures.read c.in-Ok-find_token.ensures c.write_lines.ensures

pub returns-in-Err : goal.returns-in-Err
returns-in-Err g c = unread_ends _ _ _ _ c.in-Err.ended c.in-Err.ensures.read refl
