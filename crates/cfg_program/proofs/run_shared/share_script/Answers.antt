-- The script was read, its callers' calls were made, and their lines were written, as far as the sink took them; or there is none.
use Rattle.std.proofs.Common.{refl}
use Rattle.cfg_script.specs.Script.{plain_share}
use Rattle.cfg_program.proofs.ShareEndings.{told_ends, share_unread}
use Rattle.cfg_program.proofs.run_shared.share_script.Goals as goal

pub returns-in-Ok-share : goal.returns-in-Ok-share
returns-in-Ok-share g c =
    told_ends _ _ _ (plain_share c.in-Ok.script) c.in-Ok-share.told.ended c.in-Ok-share.told.lines.items c.write_told.result
    c.in-Ok.ensures.read c.in-Ok-share.ensures c.write_told.ensures

pub returns-in-Err : goal.returns-in-Err
returns-in-Err g c = share_unread _ _ _ c.in-Err.ended c.in-Err.ensures.read refl
