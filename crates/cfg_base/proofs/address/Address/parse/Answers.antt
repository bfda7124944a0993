-- std's parser reads the same texts.
use Rattle.std.proofs.Common.{sym, ap, ◌∙◌}
use Rattle.cfg_base.specs.declared.address.Address.TheVariants.{V4, V6}
use Rattle.cfg_base.proofs.AddressLaws.{address_of, found, only, none}
use Rattle.cfg_base.proofs.address.Address.parse.Goals as goal

pub returns-in-Ok-V4-clause-found : goal.returns-in-Ok-V4-clause-found
returns-in-Ok-V4-clause-found c =
    found _ c.in-Ok-V4.field-0 (V4 c.to_bits.result) c.in-Ok-V4.ensures.value (ap address_of c.in-Ok-V4.field-0-is ∙ ap V4 (sym c.to_bits.ensures))

pub returns-in-Ok-V4-clause-only : goal.returns-in-Ok-V4-clause-only
returns-in-Ok-V4-clause-only c =
    only _ c.in-Ok-V4.field-0 (V4 c.to_bits.result) c.in-Ok-V4.ensures.value (ap address_of c.in-Ok-V4.field-0-is ∙ ap V4 (sym c.to_bits.ensures))

pub returns-in-Ok-V6-clause-found : goal.returns-in-Ok-V6-clause-found
returns-in-Ok-V6-clause-found c =
    found _ c.in-Ok-V6.field-0 (V6 c.to_bits-in-Ok-V6.result) c.in-Ok-V6.ensures.value (ap address_of c.in-Ok-V6.field-0-is ∙ ap V6 (sym c.to_bits-in-Ok-V6.ensures))

pub returns-in-Ok-V6-clause-only : goal.returns-in-Ok-V6-clause-only
returns-in-Ok-V6-clause-only c =
    only _ c.in-Ok-V6.field-0 (V6 c.to_bits-in-Ok-V6.result) c.in-Ok-V6.ensures.value (ap address_of c.in-Ok-V6.field-0-is ∙ ap V6 (sym c.to_bits-in-Ok-V6.ensures))

pub returns-in-Err-clause-none : goal.returns-in-Err-clause-none
returns-in-Err-clause-none c = none _ c.utf8.text c.in-Err.ensures.value

pub returns-in-Err-clause-only : goal.returns-in-Err-clause-only
returns-in-Err-clause-only c = λ address is. absurd (none _ c.utf8.text c.in-Err.ensures.value address is)
