use Rattle.std.proofs.Common.{ap, ◌∙◌}
use Rattle.cfg_base.specs.WhiteSpace.{is_empty}
use Rattle.cfg_base.proofs.Trimming.{is_empty-characters}
use Rattle.cfg_base.proofs.white_space.is_blank.Goals as goal

pub returns : goal.returns
returns c = c.is_empty.ensures ∙ is_empty-characters _ c.trimmed.utf8 ∙ ap is_empty c.trimmed.ensures
