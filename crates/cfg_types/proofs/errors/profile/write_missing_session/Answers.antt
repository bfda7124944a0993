-- The session and what stands before it, and then the profile.
use Rattle.std.proofs.Common.{append_assoc, codes, refl}
use Rattle.std.proofs.Output.{has_written_append, has_written_of_eq}
use Rattle.std.specs.Str.{encode_utf8_all}
use Rattle.cfg_types.proofs.errors.profile.write_missing_session.Goals as goal

pub returns : goal.returns
returns g c = λ plain ok.
    let first = c.in_ok-labelled.ensures.writes plain refl in
    has_written_of_eq _ _ _ _ _ (append_assoc (codes "sso-session named `") (encode_utf8_all c.args.session.now) _)
    (has_written_append _ _ _ _ _ _ first (c.around.ensures.writes first.plain ok))
