-- The sections so far.
use Rattle.std.proofs.Common.{take, map}
use Rattle.cfg_program.specs.Gated.{section_of, TellsSections}
use Rattle.cfg_program.proofs.gated.tell_sections.Given as goal

abbrev pub invariant-loop-called : goal.invariant-loop-called
invariant-loop-called l = TellsSections (map section_of (take l.called-index l.calls)) l.is_ok l.lines.items
