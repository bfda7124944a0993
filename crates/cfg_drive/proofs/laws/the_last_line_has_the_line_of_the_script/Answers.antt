-- The outcome's line has the line of the call.
use Rattle.cfg_drive.proofs.Replaying.{told_replays}
use Rattle.cfg_drive.proofs.laws.the_last_line_has_the_line_of_the_script.Goals as goal

pub returns : goal.returns
returns c = told_replays
