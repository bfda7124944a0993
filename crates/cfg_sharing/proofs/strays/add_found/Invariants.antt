-- The strays among the receipts of the values so far.
use Rattle.std.proofs.Common.{take}
use Rattle.std.specs.List.{flat_map}
use Rattle.cfg_sharing.specs.Receipts.{receipts_of}
use Rattle.cfg_sharing.specs.Histories.{entries_in}
use Rattle.cfg_sharing.specs.Strays.{AddsStrays}
use Rattle.cfg_sharing.proofs.strays.add_found.Given as goal

abbrev pub invariant-loop-value : goal.invariant-loop-value
invariant-loop-value g l = AddsStrays (entries_in l.calls) (flat_map receipts_of (take l.value-index l.found)) l.fn.count l.count
