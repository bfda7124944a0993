-- The pieces in their order.
use Rattle.std.proofs.Common.{ap, sym, ◌∙◌, ◌++◌, codes, refl}
use Rattle.cfg_base.proofs.StyledWrites.{styled_append, styled_is}
use Rattle.cfg_types.specs.Field.{field_fault_text}
use Rattle.cfg_types.specs.DocumentText.{invalid_credentials_text}
use Rattle.cfg_types.proofs.document.InvalidJsonCredentialsDisplay.fmt.Goals as goal

pub returns-in_ok-write_str-in-JsonError-clause-styled : goal.returns-in_ok-write_str-in-JsonError-clause-styled
returns-in_ok-write_str-in-JsonError-clause-styled g c = λ flush ok.
    let words = c.in_ok-write_str-in-JsonError.ensures.styled flush refl in
    styled_is _ _ _ _ _ (ap invalid_credentials_text (sym c.in-JsonError.is))
    (styled_append _ _ _ _ _ _ words (c.fmt.ensures.styled words.flush ok))

pub returns-in_ok-write_str-in-MissingField-2-clause-styled : goal.returns-in_ok-write_str-in-MissingField-2-clause-styled
returns-in_ok-write_str-in-MissingField-2-clause-styled g c = λ flush ok.
    let words = c.in_ok-write_str-in-MissingField.ensures.styled flush refl in
    let name = c.in_ok-write_str-in-MissingField-2.ensures.styled words.flush refl in
    styled_is _ _ _ _ _ (ap (λ f. codes "Expected field `" ++ (f ++ codes "` in response but it was missing")) c.as_str.ensures ∙ ap invalid_credentials_text (sym c.in-MissingField.is))
    (styled_append _ _ _ _ _ _ words (styled_append _ _ _ _ _ _ name (c.write_str-in-MissingField-3.ensures.styled name.flush ok)))

pub returns-in_ok-write_str-in-InvalidField-3-clause-styled : goal.returns-in_ok-write_str-in-InvalidField-3-clause-styled
returns-in_ok-write_str-in-InvalidField-3-clause-styled g c = λ flush ok.
    let words = c.in_ok-write_str-in-InvalidField.ensures.styled flush refl in
    let name = c.in_ok-write_str-in-InvalidField-2.ensures.styled words.flush refl in
    let colon = c.in_ok-write_str-in-InvalidField-3.ensures.styled name.flush refl in
    styled_is _ _ _ _ _ (ap (λ f. codes "Invalid field in response: `" ++ (f ++ (codes "`. " ++ field_fault_text c.in-InvalidField.fault))) c.as_str-in-InvalidField.ensures ∙ ap invalid_credentials_text (sym c.in-InvalidField.is))
    (styled_append _ _ _ _ _ _ words (styled_append _ _ _ _ _ _ name (styled_append _ _ _ _ _ _ colon (c.fmt-in-InvalidField.ensures.styled colon.flush ok))))
