-- The entries so far.
use Rattle.std.proofs.Common.{◌≡◌, ◌++◌, string_bytes, take}
use Rattle.std.specs.List.{flat_map}
use Rattle.caller.specs.Lines.{shown_entry}
use Rattle.caller.proofs.lines.write_entries.Given as goal

abbrev pub invariant-loop-entry : goal.invariant-loop-entry
invariant-loop-entry l = string_bytes l.line ≡ string_bytes l.fn.line ++ flat_map shown_entry (take l.entry-index l.journal)
