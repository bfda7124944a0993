-- The words, and then the number.
use Rattle.std.proofs.Common.{◌≡◌, ap, ◌++◌, codes, refl, rules}
use Rattle.std.specs.Fmt.{signed_decimal}
use Rattle.cfg_base.proofs.StyledWrites.{styled_append, styled_is}
use Rattle.cfg_types.proofs.errors.causes.write_ended.Goals as goal

pub returns-clause-styled : goal.returns-clause-styled
returns-clause-styled g c = λ flush ok.
    let digits : c.format.result.now ≡ signed_decimal c.args.code = search rules in
    let words = c.in_ok-write_str.ensures.styled flush refl in
    styled_is _ _ _ _ _ (ap (λ number. codes "the command ended with status " ++ number) digits) (styled_append _ _ _ _ _ _ words (c.write_str-2.ensures.styled words.flush ok))
