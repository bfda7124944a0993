-- The strays among the receipts so far.
use Rattle.std.proofs.Common.{take}
use Rattle.cfg_sharing.specs.Histories.{entries_in}
use Rattle.cfg_sharing.specs.Strays.{AddsStrays}
use Rattle.cfg_sharing.proofs.strays.add_receipts.Given as goal

abbrev pub invariant-loop-receipt : goal.invariant-loop-receipt
invariant-loop-receipt g l = AddsStrays (entries_in l.calls) (take l.receipt-index l.receipts) l.fn.count l.count
