-- The members so far are written.
use Rattle.std.proofs.Common.{◌≡◌, ◌++◌, take}
use Rattle.std.specs.List.{flat_map}
use Rattle.cfg_program.specs.Why.{passed_over_line}
use Rattle.cfg_program.proofs.why.write_passed_over.Given as goal

abbrev pub invariant-loop-member : goal.invariant-loop-member
invariant-loop-member l = l.lines.items ≡ l.fn.lines.items ++ flat_map passed_over_line (take l.member-index l.members)
