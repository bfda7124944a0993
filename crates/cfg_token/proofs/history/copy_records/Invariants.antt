-- The records so far are copied.
use Rattle.std.proofs.Common.{◌≡◌, take}
use Rattle.cfg_token.proofs.history.copy_records.Given as goal

abbrev pub invariant-loop-finished : goal.invariant-loop-finished
invariant-loop-finished g l = l.copies.items ≡ take l.finished-index l.records.items
