-- The levels so far are written.
use Rattle.std.proofs.Common.{◌≡◌, ◌++◌}
use Rattle.cfg_program.specs.CauseLines.{indent}
use Rattle.cfg_program.proofs.causes.write_indent.Given as goal

abbrev pub invariant-loop : goal.invariant-loop
invariant-loop l = l.lines.items ≡ l.fn.lines.items ++ indent l.counter
