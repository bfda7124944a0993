-- Those so far, and then those of the receipts that are left.
use Rattle.std.proofs.Common.{◌≡◌, ◌++◌, drop}
use Rattle.cfg_sharing.specs.Readings.{handed_after}
use Rattle.cfg_sharing.proofs.Handed.{handed_from}
use Rattle.cfg_sharing.proofs.readings.note_receipts.Given as goal

abbrev pub invariant-loop-receipt : goal.invariant-loop-receipt
invariant-loop-receipt l = l.readings.items ++ handed_from l.was_read (drop l.receipt-index l.receipts) ≡ l.fn.readings.items ++ handed_after l.receipts
