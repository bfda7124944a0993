-- The words, the number, and then what it wrote.
use Rattle.std.proofs.Common.{◌≡◌, ap, ◌++◌, codes, refl, rules}
use Rattle.std.specs.Fmt.{signed_decimal}
use Rattle.cfg_base.proofs.StyledWrites.{styled_append, styled_is}
use Rattle.cfg_types.proofs.errors.causes.write_ended_with.Goals as goal

pub returns-clause-styled : goal.returns-clause-styled
returns-clause-styled g c = λ flush ok.
    let digits : c.format.result.now ≡ signed_decimal c.args.code = search rules in
    let words = c.in_ok-write_str.ensures.styled flush refl in
    let number = c.in_ok-write_str-2.ensures.styled words.flush refl in
    let ended = styled_is _ _ _ _ _ (ap (λ n. codes "the command ended with status " ++ n) digits) (styled_append _ _ _ _ _ _ words number) in
    styled_append _ _ _ _ _ _ ended (c.labelled.ensures.styled ended.flush ok)
