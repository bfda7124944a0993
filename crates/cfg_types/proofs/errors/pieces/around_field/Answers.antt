-- The pieces in their order.
use Rattle.std.proofs.Common.{ap, ◌++◌, refl}
use Rattle.cfg_base.proofs.StyledWrites.{styled_append, styled_is}
use Rattle.cfg_types.proofs.errors.pieces.around_field.Goals as goal

pub returns-clause-styled : goal.returns-clause-styled
returns-clause-styled g c = λ flush ok.
    let words = c.in_ok-write_str.ensures.styled flush refl in
    let name = c.in_ok-write_str-2.ensures.styled words.flush refl in
    styled_is _ _ _ _ _ (ap (λ n. c.args.before.now ++ (n ++ c.args.after.now)) c.as_str.ensures)
    (styled_append _ _ _ _ _ _ words (styled_append _ _ _ _ _ _ name (c.write_str-3.ensures.styled name.flush ok)))
