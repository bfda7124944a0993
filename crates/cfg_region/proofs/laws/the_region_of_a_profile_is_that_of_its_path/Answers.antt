use Rattle.cfg_region.proofs.ProfileRegions.{the_region, only_region}
use Rattle.cfg_region.proofs.laws.the_region_of_a_profile_is_that_of_its_path.Goals as goal

pub returns-clause-path : goal.returns-clause-path
returns-clause-path c = the_region

pub returns-clause-only : goal.returns-clause-only
returns-clause-only c = only_region
