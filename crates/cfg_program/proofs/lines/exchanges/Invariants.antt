-- The exchanges so far.
use Rattle.std.proofs.Common.{◌≡◌, ◌≤◌, take}
use Rattle.cfg_program.specs.Lines.{exchanges}
use Rattle.cfg_program.proofs.lines.exchanges.Given as goal

abbrev pub invariant-loop-entry : goal.invariant-loop-entry
invariant-loop-entry l = (l.count ≡ exchanges (take l.entry-index l.journal)) × (l.count ≤ l.entry-index)
