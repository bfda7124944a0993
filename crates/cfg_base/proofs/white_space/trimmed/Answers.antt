use Rattle.std.proofs.Common.{ap, ◌∙◌}
use Rattle.cfg_base.specs.Text.{characters}
use Rattle.cfg_base.proofs.Trimming.{characters-trim}
use Rattle.cfg_base.proofs.white_space.trimmed.Goals as goal

pub returns : goal.returns
returns c = ap characters c.trim.ensures.trim ∙ characters-trim c.args.text.now c.utf8.text
