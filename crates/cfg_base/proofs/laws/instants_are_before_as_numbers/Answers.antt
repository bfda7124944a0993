-- The order of the parts is that of the numbers.
use Rattle.std.proofs.Common.{◌≡◌, ◌∙◌, sym, ap, arith, rules}
use Rattle.std.specs.Ordering.{int_cmp, nat_cmp, ordering_then, is_lt}
use Rattle.cfg_base.specs.Instant.{number}
use Rattle.cfg_base.proofs.InstantOrder.{ordered_as_numbers, is_below}
use Rattle.cfg_base.proofs.laws.instants_are_before_as_numbers.Goals as goal

pub returns : goal.returns
returns c =
    let order = ordered_as_numbers c.args.a c.args.b (omega (arith, c.nanos.ensures.value, c.nanos.ensures.below)) (omega (arith, c.nanos-2.ensures.value, c.nanos-2.ensures.below)) in
    let parts : c.lt.result ≡ is_lt (ordering_then (int_cmp c.args.a.seconds c.args.b.seconds) (nat_cmp c.args.a.nanos c.args.b.nanos)) = search rules in
    let told : c.lt.result ≡ is_lt (int_cmp (number c.args.a) (number c.args.b)) = parts ∙ ap is_lt order in
    let below = is_below (number c.args.a) (number c.args.b) in
    (λ true. below.0 (sym told ∙ true), λ less. told ∙ below.1 less)
