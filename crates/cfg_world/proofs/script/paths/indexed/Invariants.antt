-- The index finds the entries so far.
use Rattle.std.proofs.Common.{take}
use Rattle.cfg_world.specs.Paths.{Finds}
use Rattle.cfg_world.proofs.script.paths.indexed.Given as goal

abbrev pub invariant-loop-at : goal.invariant-loop-at
invariant-loop-at g l = Finds l.index (take l.at l.entries)
