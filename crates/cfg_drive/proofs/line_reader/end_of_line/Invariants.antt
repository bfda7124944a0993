-- No line ends in the bytes before it.
use Rattle.std.proofs.Common.{take}
use Rattle.cfg_drive.specs.Lines.{HasNoEnd}
use Rattle.cfg_drive.proofs.line_reader.end_of_line.Given as goal

abbrev pub invariant-loop-at : goal.invariant-loop-at
invariant-loop-at l = HasNoEnd (take l.at l.bytes)
