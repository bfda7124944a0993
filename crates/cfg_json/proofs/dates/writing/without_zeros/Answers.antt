use Rattle.cfg_json.proofs.DatesWritten.{zero_off, no_zero, none_left}
use Rattle.cfg_json.proofs.dates.writing.without_zeros.Goals as goal

pub loop-last-preserved : goal.loop-last-preserved
loop-last-preserved c = zero_off c.loop-last.rest.now c.in-Some.last.now c.in-Some.front.now _ c.in-Some.ensures.cases.0 c.if-last-ne48.false c.loop-last.invariant

pub returns-then-last-ne48 : goal.returns-then-last-ne48
returns-then-last-ne48 c = no_zero c.loop-last.rest.now c.in-Some.last.now c.in-Some.front.now _ c.in-Some.ensures.cases.0 c.if-last-ne48.true c.loop-last.invariant

pub returns-in_default : goal.returns-in_default
returns-in_default c = none_left c.loop-last.rest.now _ c.in_default.ensures.cases c.loop-last.invariant
