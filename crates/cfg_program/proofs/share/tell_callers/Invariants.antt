-- The callers so far.
use Rattle.std.proofs.Common.{take}
use Rattle.cfg_program.specs.Sharing.{callers_of, TellsCallers}
use Rattle.cfg_program.proofs.share.tell_callers.Given as goal

abbrev pub invariant-loop-called : goal.invariant-loop-called
invariant-loop-called l = TellsCallers (callers_of (take l.called-index l.calls)) l.is_ok l.lines.items
