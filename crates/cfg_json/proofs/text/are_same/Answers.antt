use Rattle.std.proofs.Common.{◌∙◌}
use Rattle.cfg_base.proofs.TextLemmas.{text_eq}
use Rattle.cfg_json.proofs.text.are_same.Goals as goal

pub returns : goal.returns
returns c = c.eq.ensures ∙ text_eq c.args.text.now c.args.other.now c.utf8.text c.utf8.other
