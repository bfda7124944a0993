-- The hash map's names are distinct, so each is counted once.
use Rattle.std.proofs.Common.{ap, sym, ◌∙◌}
use Rattle.std.specs.FinMap.{len}
use Rattle.cfg_base.proofs.MapLookups.{len-distinct}
use Rattle.cfg_base.proofs.text_map.TextMap.len.Goals as goal

pub returns : goal.returns
returns g c = c.len.ensures.len ∙ sym (len-distinct c.self.inside.entries.entries c.len.ensures.unique) ∙ ap len c.self.view_is
