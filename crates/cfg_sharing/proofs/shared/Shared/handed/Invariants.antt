-- The readings of the journals so far.
use Rattle.std.proofs.Common.{◌≡◌, take}
use Rattle.cfg_sharing.specs.Histories.{handed_in}
use Rattle.cfg_sharing.proofs.shared.Shared.handed.Given as goal

abbrev pub invariant-loop-called : goal.invariant-loop-called
invariant-loop-called g l = l.readings.items ≡ handed_in (take l.called-index l.self.calls)
