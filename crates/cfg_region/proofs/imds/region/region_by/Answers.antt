-- The journal gained what was asked for the region.
use Rattle.std.proofs.Common.{sym}
use Rattle.cfg_region.proofs.Loads.{off_asks, got_asks, got_breaks, got_leaves}
use Rattle.cfg_region.proofs.imds.region.region_by.Goals as goal

pub returns-then-is_disabled-clause-asks : goal.returns-then-is_disabled-clause-asks
returns-then-is_disabled-clause-asks g c = off_asks _ _ _ _ (sym c.if-is_disabled.ensures)

pub returns-clause-asks : goal.returns-clause-asks
returns-clause-asks g c = got_asks _ _ _ _ _ _ _ c.get-got.result _ c.region_got.result (sym c.if-is_disabled.ensures) c.get-got.ensures.gets c.region_got.ensures

pub returns-clause-breaks : goal.returns-clause-breaks
returns-clause-breaks g c = got_breaks _ _ _ _ _ _ _ c.get-got.result _ c.region_got.result (sym c.if-is_disabled.ensures) c.get-got.ensures.gets c.get-got.ensures.memory

pub returns-clause-left : goal.returns-clause-left
returns-clause-left g c = got_leaves _ c.get-got.result c.region_got.result c.get-got.ensures.gets c.get-got.ensures.left
