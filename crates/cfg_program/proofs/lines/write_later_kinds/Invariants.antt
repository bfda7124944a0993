-- The kinds so far.
use Rattle.std.proofs.Common.{◌≡◌, ◌++◌, take}
use Rattle.std.specs.List.{flat_map}
use Rattle.cfg_program.specs.Lines.{later_kind}
use Rattle.cfg_program.proofs.lines.write_later_kinds.Given as goal

abbrev pub invariant-loop-entry : goal.invariant-loop-entry
invariant-loop-entry l = l.line.items ≡ l.fn.line.items ++ flat_map later_kind (take l.entry-index l.journal)
