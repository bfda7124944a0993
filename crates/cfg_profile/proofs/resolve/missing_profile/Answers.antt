-- The message's text and characters.
use Rattle.std.proofs.Common.{ap, ◌∙◌}
use Rattle.cfg_base.specs.Text.{characters}
use Rattle.cfg_types.specs.declared.errors.ProfileFileError.TheVariants.{MissingProfile}
use Rattle.cfg_profile.specs.Plans.{missing_profile}
use Rattle.cfg_profile.proofs.resolve.missing_profile.Goals as goal

pub returns : goal.returns
unfolding missing_profile
returns c =
    let message = c.from_string-message.ensures ∙ ap characters c.in_ok-message.ensures.ok in
    λ i. MissingProfile (c.in_ok-profile.ensures i) (message i)
