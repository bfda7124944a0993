-- The entry stands in no journal so far.
use Rattle.std.proofs.Common.{take}
use Rattle.std.specs.Prelude.{Contains}
use Rattle.cfg_sharing.specs.Histories.{entries_in}
use Rattle.cfg_sharing.proofs.strays.stands_in_one.Given as goal

abbrev pub invariant-loop-called : goal.invariant-loop-called
invariant-loop-called g l = Contains (entries_in (take l.called-index l.calls)) l.entry → ⊥
