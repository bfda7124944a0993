-- The text of the variable is judged.
use Rattle.std.proofs.Common.{◌∙◌, ap}
use Rattle.cfg_imds.specs.Regions.{is_true_text, is_disabled}
use Rattle.cfg_imds.proofs.region.is_disabled.Goals as goal

pub returns : goal.returns
unfolding is_disabled
returns c = c.is_true_text.ensures ∙ ap is_true_text c.readable.ensures.bytes
