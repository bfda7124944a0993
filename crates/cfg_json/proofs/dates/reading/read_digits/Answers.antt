use Rattle.std.proofs.Common.{sym, arith}
use Rattle.cfg_json.proofs.DateSteps.{one_digit_more, digits_end, too_many, text_ends, digit_bound}
use Rattle.cfg_json.proofs.dates.reading.read_digits.Goals as goal

pub returns-in_default-digit_of-clause-value : goal.returns-in_default-digit_of-clause-value
returns-in_default-digit_of-clause-value c = digits_end c.loop-x.nanos c.loop-x.weight c.loop-x.rest.now c.in-Some.x.now c.in-Some.after.now _ c.in-Some.ensures.cases.0 (sym c.in_default-digit_of.ensures.value) c.loop-x.invariant.0

pub returns-then-weight-eq0-clause-value : goal.returns-then-weight-eq0-clause-value
returns-then-weight-eq0-clause-value c =
    too_many c.loop-x.nanos c.loop-x.weight c.loop-x.rest.now c.in-Some.x.now c.in-Some.after.now c.in-Some-digit_of.digit _ c.in-Some.ensures.cases.0 (sym c.in-Some-digit_of.ensures.value) c.if-weight-eq0.true c.loop-x.invariant.0

pub loop-x-preserved : goal.loop-x-preserved
loop-x-preserved c =
    let bound = digit_bound c.in-Some-digit_of.digit c.loop-x.weight c.in-Some-digit_of.ensures.small in (
      one_digit_more c.loop-x.nanos c.loop-x.weight c.loop-x.rest.now c.in-Some.x.now c.in-Some.after.now c.in-Some-digit_of.digit _ c.in-Some.ensures.cases.0 (sym c.in-Some-digit_of.ensures.value) c.if-weight-eq0.false c.loop-x.invariant.0,
      omega (arith, bound, c.loop-x.invariant.1, c.if-weight-eq0.false),
      omega (arith, bound, c.loop-x.invariant.1, c.if-weight-eq0.false),
    )

pub returns-clause-value : goal.returns-clause-value
returns-clause-value c = text_ends c.loop-x.nanos c.loop-x.weight c.loop-x.rest.now _ c.in_default.ensures.cases c.loop-x.invariant.0
