-- The region of a configuration.
use Rattle.cfg_world.specs.declared.devices.Devices.{Ghosts}
use Rattle.cfg_world.specs.Held.{Held}
use Rattle.cfg_profile.specs.Configuration.{Configuration}
use Rattle.cfg_region.specs.Calls.{AsksInOrder}
use Rattle.cfg_region.specs.Defaults.{DefaultRegions, IsDefault, default_trees}
use Rattle.cfg_region.specs.Environments.{Told}

-- The journal grew by exactly the parts of the default region chain of this configuration, up to the first that gave
-- a region.
pub record RegionTold {D : Type 0} (d : Ghosts D) (conf : Configuration) (old new : Held D) (region : Told) : Type 0 where
  pub chain : DefaultRegions
  pub default : IsDefault conf chain
  pub asks : AsksInOrder d (default_trees chain) old new region
