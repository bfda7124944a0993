-- The receipts so far are copied.
use Rattle.std.proofs.Common.{◌≡◌, take}
use Rattle.cfg_token.proofs.history.copy_receipts.Given as goal

abbrev pub invariant-loop-receipt : goal.invariant-loop-receipt
invariant-loop-receipt l = l.copies.items ≡ take l.receipt-index l.receipts
