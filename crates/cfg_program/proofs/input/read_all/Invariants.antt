-- What was read is what the source gave.
use Rattle.std.proofs.Common.{◌≤◌, ◌-◌, ◌+◌, length}
use Rattle.std.specs.Io.KnownBytes.{Consumes}
use Rattle.cfg_program.specs.Inputs.{most_bytes}
use Rattle.cfg_program.proofs.input.read_all.Given as goal

abbrev pub invariant-loop-buffer : goal.invariant-loop-buffer
invariant-loop-buffer g l =
    Consumes (g.S.Source.left l.fn.source) (g.S.Source.left l.source) l.out.items × (length l.out.items ≤ most_bytes + 1) × (g.S.Source.faults l.fn.source ≤ g.S.Source.faults l.source)

abbrev pub decreases-loop-buffer : goal.decreases-loop-buffer
decreases-loop-buffer g l = most_bytes + 1 - length l.out.items
