-- No line ends in what was seen, and what was to come is to come still.
use Rattle.std.proofs.Common.{◌-◌, ◌≤◌, length, take}
use Rattle.std.specs.Io.KnownBytes.{Keeps, prepend_known}
use Rattle.cfg_drive.specs.Lines.{most_bytes, HasNoEnd}
use Rattle.cfg_drive.proofs.line_reader.LineReader.next_line.Given as goal

abbrev pub invariant-loop-seen : goal.invariant-loop-seen
invariant-loop-seen g l = record {
  within : l.seen ≤ length l.self;
  short : l.seen ≤ most_bytes;
  endless : HasNoEnd (take l.seen l.self);
  kept : Keeps (prepend_known l.fn.self (g.S.Source.left l.fn.source)) (prepend_known l.self (g.S.Source.left l.source));
  counted : g.S.Source.faults l.fn.source ≤ g.S.Source.faults l.source;
}

abbrev pub decreases-loop-seen : goal.decreases-loop-seen
decreases-loop-seen g l = most_bytes - l.seen
