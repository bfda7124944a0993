-- The readings of the records so far.
use Rattle.std.proofs.Common.{◌≡◌, ◌++◌, take}
use Rattle.std.specs.List.{flat_map}
use Rattle.cfg_sharing.specs.Readings.{handed_after}
use Rattle.cfg_sharing.proofs.shared.note_records.Given as goal

abbrev pub invariant-loop-record : goal.invariant-loop-record
invariant-loop-record g l = l.readings.items ≡ l.fn.readings.items ++ flat_map (λ r. handed_after r.receipts) (take l.record-index l.records)
