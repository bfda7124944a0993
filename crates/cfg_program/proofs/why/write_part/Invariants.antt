-- The entries so far are written.
use Rattle.std.proofs.Common.{◌≡◌, ◌++◌, take}
use Rattle.std.specs.List.{flat_map}
use Rattle.cfg_program.specs.Why.{asked_line}
use Rattle.cfg_program.proofs.why.write_part.Given as goal

abbrev pub invariant-loop-entry : goal.invariant-loop-entry
invariant-loop-entry l = l.lines.items ≡ l.fn.lines.items ++ flat_map asked_line (take l.entry-index l.part)
