-- What the hash map has at the name is what the map has there.
use Rattle.std.proofs.Common.{sym, ap, ◌∙◌}
use Rattle.std.specs.FinMap.{get}
use Rattle.cfg_base.proofs.MapLookups.{get-map_of}
use Rattle.cfg_base.proofs.text_map.TextMap.get.Goals as goal

pub returns : goal.returns
returns g c = c.get.ensures.value ∙ sym (get-map_of c.self.inside.entries c.args.name.now) ∙ ap (λ m. get m c.args.name.now) c.self.view_is
