-- The pieces in their order.
use Rattle.std.proofs.Common.{ap, ◌++◌, refl}
use Rattle.std.specs.Prelude.{codes}
use Rattle.cfg_base.proofs.StyledWrites.{styled_append, styled_is}
use Rattle.cfg_endpoint.proofs.fault.write_bad_role.Goals as goal

pub returns-clause-styled : goal.returns-clause-styled
returns-clause-styled g c = λ flush ok.
    let words = c.in_ok-write_str.ensures.styled flush refl in
    let name = c.in_ok-write_str-2.ensures.styled words.flush refl in
    styled_is _ _ _ _ _ (ap (λ n. codes "no path can be asked for the role `" ++ (n ++ codes "`")) c.as_str.ensures.bytes)
    (styled_append _ _ _ _ _ _ words (styled_append _ _ _ _ _ _ name (c.write_str-3.ensures.styled name.flush ok)))
