-- The label, and then the text.
use Rattle.std.proofs.Common.{ap, ◌++◌, refl}
use Rattle.cfg_base.proofs.StyledWrites.{styled_append, styled_is}
use Rattle.cfg_types.proofs.errors.pieces.labelled.Goals as goal

pub returns-clause-styled : goal.returns-clause-styled
returns-clause-styled g c = λ flush ok.
    let label = c.in_ok-write_str.ensures.styled flush refl in
    styled_is _ _ _ _ _ (ap (λ text. c.args.label.now ++ text) c.as_str.ensures.bytes) (styled_append _ _ _ _ _ _ label (c.write_str-2.ensures.styled label.flush ok))
