-- The message has the error's text.
use Rattle.std.proofs.Common.{rules}
use Rattle.cfg_types.specs.ErrorTexts.{profile_text}
use Rattle.cfg_profile.specs.Plans.{wrapped_error}
use Rattle.cfg_profile.proofs.ToldErrors.{shown_is}
use Rattle.cfg_profile.proofs.resolve.error_of_source.Goals as goal

pub returns : goal.returns
unfolding wrapped_error
returns c =
    let text = shown_is (profile_text c.args.error.now) _ c.requires c.in_ok-text.ensures in
    search (rules, text)
