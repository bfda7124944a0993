-- The steps so far are written.
use Rattle.std.proofs.Common.{Ok, take}
use Rattle.std.specs.Fmt.{DisplaysOnOk}
use Rattle.cfg_script.specs.FaultTexts.{later_text}
use Rattle.cfg_script.proofs.fault_text.write_later.Given as goal

abbrev pub invariant-loop-step : goal.invariant-loop-step
invariant-loop-step g l = DisplaysOnOk g.W.Write.write_str_gives l.initial.f (Ok tt) (later_text (take l.step-index l.steps)) l.f
