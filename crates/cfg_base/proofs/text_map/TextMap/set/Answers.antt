-- The hash map sets the name as the map does.
use Rattle.std.proofs.Common.{ap, ◌∙◌, string_bytes}
use Rattle.std.specs.FinMap.{insert}
use Rattle.cfg_base.proofs.MapLookups.{inserted}
use Rattle.cfg_base.proofs.text_map.TextMap.set.Goals as goal

pub returns-clause-ok : goal.returns-clause-ok
returns-clause-ok g c =
    inserted c.self.inside.entries c.insert.new.self c.args.name c.args.value c.in_ok-_before.ensures.updates
    ∙ ap (λ m. insert m (string_bytes c.args.name) c.args.value) c.self.view_is
