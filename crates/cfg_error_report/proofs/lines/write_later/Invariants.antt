-- The lines so far are written.
use Rattle.std.proofs.Common.{Ok, take}
use Rattle.std.specs.List.{flat_map}
use Rattle.std.specs.Fmt.{WritesOnOk}
use Rattle.cfg_error_report.specs.Lines.{joined}
use Rattle.cfg_error_report.proofs.lines.write_later.Given as goal

abbrev pub invariant-loop-line : goal.invariant-loop-line
invariant-loop-line g l = WritesOnOk g.W.Write.write_str_gives l.initial.f (Ok tt) (flat_map joined (take l.line-index l.lines)) l.f
