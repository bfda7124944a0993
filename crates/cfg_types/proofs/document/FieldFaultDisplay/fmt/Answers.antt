-- The words, and then the number.
use Rattle.std.proofs.Common.{◌≡◌, ap, sym, ◌∙◌, ◌++◌, codes, refl, rules}
use Rattle.std.specs.Fmt.{signed_decimal}
use Rattle.cfg_base.proofs.StyledWrites.{styled_append, styled_is}
use Rattle.cfg_types.specs.Field.{field_fault_text}
use Rattle.cfg_types.proofs.document.FieldFaultDisplay.fmt.Goals as goal

pub returns-in_ok-write_str-in-UnknownVersion-clause-styled : goal.returns-in_ok-write_str-in-UnknownVersion-clause-styled
returns-in_ok-write_str-in-UnknownVersion-clause-styled g c = λ flush ok.
    let digits : c.format.result.now ≡ signed_decimal c.in-UnknownVersion.n = search rules in
    let words = c.in_ok-write_str-in-UnknownVersion.ensures.styled flush refl in
    styled_is _ _ _ _ _ (ap (λ number. codes "unknown version number: " ++ number) digits ∙ ap field_fault_text (sym c.in-UnknownVersion.is))
    (styled_append _ _ _ _ _ _ words (c.write_str-in-UnknownVersion-2.ensures.styled words.flush ok))
