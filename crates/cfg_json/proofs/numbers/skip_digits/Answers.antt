use Rattle.std.proofs.Common.{rules}
use Rattle.cfg_json.proofs.Steps.{one_digit_more, no_digit, digits_at_end}
use Rattle.cfg_json.proofs.numbers.skip_digits.Goals as goal

pub loop-x-preserved : goal.loop-x-preserved
loop-x-preserved c = one_digit_more c.loop-x.rest.now c.in-Some.x.now c.in-Some.after.now _ c.in-Some.ensures.cases.0 (search rules) c.loop-x.invariant

pub returns-then-not-is_ascii_digit : goal.returns-then-not-is_ascii_digit
returns-then-not-is_ascii_digit c = no_digit c.loop-x.rest.now c.in-Some.x.now c.in-Some.after.now _ c.in-Some.ensures.cases.0 (search rules) c.loop-x.invariant

pub returns-in_default : goal.returns-in_default
returns-in_default c = digits_at_end c.loop-x.rest.now _ c.in_default.ensures.cases c.loop-x.invariant
