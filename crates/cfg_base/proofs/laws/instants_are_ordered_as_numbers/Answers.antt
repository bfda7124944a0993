-- The order of the parts is that of the numbers.
use Rattle.std.proofs.Common.{◌∙◌, arith}
use Rattle.cfg_base.proofs.InstantOrder.{ordered_as_numbers}
use Rattle.cfg_base.proofs.laws.instants_are_ordered_as_numbers.Goals as goal

pub returns : goal.returns
returns c = c.cmp.ensures ∙ ordered_as_numbers c.args.a c.args.b (omega (arith, c.nanos.ensures.value, c.nanos.ensures.below)) (omega (arith, c.nanos-2.ensures.value, c.nanos-2.ensures.below))
