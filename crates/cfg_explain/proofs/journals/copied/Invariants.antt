-- The entries so far.
use Rattle.std.proofs.Common.{◌≡◌, take}
use Rattle.cfg_explain.proofs.journals.copied.Given as goal

abbrev pub invariant-loop-entry : goal.invariant-loop-entry
invariant-loop-entry l = l.copies.items ≡ take l.entry-index l.journal
