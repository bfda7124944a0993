-- What is written, and the lines of the entries that are left, are all lines.
use Rattle.std.proofs.Common.{◌≡◌, ◌+◌, ◌++◌, drop}
use Rattle.cfg_program.specs.Explained.{entry_lines}
use Rattle.cfg_program.proofs.explain.write_entries.Given as goal

abbrev pub invariant-loop-place : goal.invariant-loop-place
invariant-loop-place l = l.lines.items ++ entry_lines (l.place + 1) (drop l.place l.journal) (drop l.place l.members) ≡ l.fn.lines.items ++ entry_lines 1 l.journal l.members
