-- The causes so far are written.
use Rattle.std.proofs.Common.{◌≡◌, ◌++◌, take}
use Rattle.cfg_program.specs.CauseLines.{shown_causes}
use Rattle.cfg_program.proofs.causes.write_lines.Given as goal

abbrev pub invariant-loop-cause : goal.invariant-loop-cause
invariant-loop-cause l = l.lines.items ≡ l.fn.lines.items ++ shown_causes (take l.cause-index l.causes)
