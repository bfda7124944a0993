-- Those so far, and then those of the entries that are left.
use Rattle.std.proofs.Common.{◌≡◌, ◌++◌, drop}
use Rattle.cfg_sharing.specs.Readings.{handed_after}
use Rattle.cfg_sharing.proofs.Handed.{handed_from}
use Rattle.cfg_sharing.proofs.readings.note_entries.Given as goal

abbrev pub invariant-loop-entry : goal.invariant-loop-entry
invariant-loop-entry l = l.readings.items ++ handed_from l.was_read (drop l.entry-index l.journal) ≡ l.fn.readings.items ++ handed_after l.journal
