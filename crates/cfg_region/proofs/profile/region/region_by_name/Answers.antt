-- The region that was found is the one of the path.
use Rattle.std.proofs.Common.{sym}
use Rattle.cfg_region.proofs.ProfileRegions.{only_region}
use Rattle.cfg_region.proofs.profile.region.region_by_name.Goals as goal

pub returns-in_ok-region-in-Sections : goal.returns-in_ok-region-in-Sections
returns-in_ok-region-in-Sections c = rw c.in-Sections.is (sym (only_region c.in-Sections.set.profiles c.args.name.now c.in_ok-region-in-Sections.region c.in_ok-region-in-Sections.ensures))
