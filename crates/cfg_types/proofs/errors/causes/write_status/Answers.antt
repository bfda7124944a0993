-- The words, and then the number.
use Rattle.std.proofs.Common.{◌≡◌, ap, ◌++◌, codes, refl, rules}
use Rattle.std.specs.Fmt.{decimal}
use Rattle.cfg_base.proofs.StyledWrites.{styled_append, styled_is}
use Rattle.cfg_types.proofs.errors.causes.write_status.Goals as goal

pub returns-clause-styled : goal.returns-clause-styled
returns-clause-styled g c = λ flush ok.
    let digits : c.format.result.now ≡ decimal c.args.status = search rules in
    let words = c.in_ok-write_str.ensures.styled flush refl in
    styled_is _ _ _ _ _ (ap (λ number. codes "the reply has the status " ++ number) digits) (styled_append _ _ _ _ _ _ words (c.write_str-2.ensures.styled words.flush ok))
