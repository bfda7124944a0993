-- The entries so far are those of the first receipts.
use Rattle.std.proofs.Common.{◌≡◌, take}
use Rattle.cfg_drive.proofs.exchanges.entries_of.Given as goal

abbrev pub invariant-loop-receipt : goal.invariant-loop-receipt
invariant-loop-receipt l = l.entries.items ≡ take l.receipt-index l.receipts
