-- Each text behind what stands before it.
use Rattle.std.proofs.Common.{append_assoc, ◌++◌, refl}
use Rattle.std.specs.Str.{encode_utf8_all}
use Rattle.cfg_base.proofs.StyledWrites.{styled_append, styled_is}
use Rattle.cfg_types.proofs.errors.pieces.around_before.Goals as goal

pub returns-clause-styled : goal.returns-clause-styled
returns-clause-styled g c = λ flush ok.
    let first = c.in_ok-labelled.ensures.styled flush refl in
    styled_is _ _ _ _ _ (append_assoc c.args.before.now (encode_utf8_all c.args.text.now) (c.args.between.now ++ encode_utf8_all c.args.last.now)) (styled_append _ _ _ _ _ _ first (c.labelled-2.ensures.styled first.flush ok))
