-- What is written of the variant is the error's text.
use Rattle.std.proofs.Common.{subst, sym}
use Rattle.std.specs.Fmt.{DisplaysOnOk}
use Rattle.cfg_types.specs.ErrorTexts.{profile_text}
use Rattle.cfg_types.specs.declared.errors.profile.ProfileFileError.{ProfileFileError}
use Rattle.cfg_types.proofs.errors.profile.ProfileFileErrorDisplay.fmt.Goals as goal

pub returns-in-MissingProfile-clause-writes : goal.returns-in-MissingProfile-clause-writes
returns-in-MissingProfile-clause-writes g c =
    let step = c.around_before-in-MissingProfile in
    subst (λ (e : ProfileFileError). DisplaysOnOk g.W.Write.write_str_gives c.args.f.now step.result (profile_text e) step.new.f) (sym c.in-MissingProfile.is) step.ensures.writes
