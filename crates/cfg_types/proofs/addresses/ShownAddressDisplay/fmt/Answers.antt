-- The text is cut at its last `@`, where it has one.
use Rattle.std.proofs.Common.{◌≡◌, sym, ap, ◌∙◌, arith}
use Rattle.cfg_types.specs.Addresses.{address_parts, shown_address}
use Rattle.cfg_types.proofs.Cuts.{cut-none, cut-found}
use Rattle.cfg_types.proofs.addresses.ShownAddressDisplay.fmt.Goals as goal

pub returns-in-None-clause-writes : goal.returns-in-None-clause-writes
returns-in-None-clause-writes g c = λ plain ok.
    let address = c.as_str-address.result.now in
    let cut = cut-none 64 address c.in-None.ensures.cases (omega arith) in
    rw (← (sym (ap (address_parts address) cut) ∙ ap shown_address c.as_str-address.ensures.bytes)) (c.write_without_query.ensures plain ok)

pub returns-in-Some-clause-writes : goal.returns-in-Some-clause-writes
returns-in-Some-clause-writes g c = λ plain ok.
    let address = c.as_str-address.result.now in
    let found = c.in-Some.ensures.cases in
    let cut = cut-found 64 address c.in-Some.user.now c.in-Some.rest.now found.0 found.1 found.2 (ap (λ p. p.now) c.in-Some.user-is ∙ found.3) (ap (λ p. p.now) c.in-Some.rest-is ∙ found.4) (omega arith) in
    rw (← (sym (ap (address_parts address) cut) ∙ ap shown_address c.as_str-address.ensures.bytes)) (c.write_behind_user.ensures plain ok)
