-- The strays among what the callers so far found.
use Rattle.std.proofs.Common.{take}
use Rattle.cfg_sharing.specs.Histories.{entries_in, receipts_in}
use Rattle.cfg_sharing.specs.Strays.{AddsStrays}
use Rattle.cfg_sharing.proofs.strays.strays_in.Given as goal

abbrev pub invariant-loop-called : goal.invariant-loop-called
invariant-loop-called g l = AddsStrays (entries_in l.calls) (receipts_in (take l.called-index l.calls)) 0 l.count
