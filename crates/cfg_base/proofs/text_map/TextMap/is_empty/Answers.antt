-- The map is empty where the hash map is.
use Rattle.std.proofs.Common.{ap, sym, ◌∙◌}
use Rattle.std.specs.FinMap.{len}
use Rattle.cfg_base.proofs.MapLookups.{len-map_of, no_entries}
use Rattle.cfg_base.proofs.text_map.TextMap.is_empty.Goals as goal

pub returns : goal.returns
returns g c =
    let entries = c.self.inside.entries.entries in (
      λ h. ap len (sym c.self.view_is) ∙ len-map_of entries (c.is_empty.ensures.0 h),
      λ h. c.is_empty.ensures.1 (no_entries entries (ap len c.self.view_is ∙ h)),
    )
