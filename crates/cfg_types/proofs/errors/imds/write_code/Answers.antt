-- The words, and the number between them.
use Rattle.std.proofs.Common.{◌≡◌, ap, ◌++◌, codes, refl, rules}
use Rattle.std.specs.Fmt.{decimal}
use Rattle.cfg_base.proofs.StyledWrites.{styled_append, styled_is}
use Rattle.cfg_types.proofs.errors.imds.write_code.Goals as goal

pub returns-clause-styled : goal.returns-clause-styled
returns-clause-styled g c = λ flush ok.
    let digits : c.format.result.now ≡ decimal c.args.status = search rules in
    let words = c.in_ok-write_str.ensures.styled flush refl in
    let code = c.in_ok-write_str-2.ensures.styled words.flush refl in
    styled_is _ _ _ _ _ (ap (λ number. codes "error response from IMDS (code: " ++ (number ++ codes ")")) digits)
    (styled_append _ _ _ _ _ _ words (styled_append _ _ _ _ _ _ code (c.write_str-3.ensures.styled code.flush ok)))
