-- What putting a default chain behind the members leaves of the world's journal.
use Rattle.std.specs.Prelude.{◌≡◌, ◌++◌, ◌∷◌, [], List, None, codes}
use Rattle.cfg_world.specs.declared.devices.Devices.{Ghosts}
use Rattle.cfg_world.specs.Held.{Held}
use Rattle.cfg_profile.specs.Configuration.{Configuration}
use Rattle.cfg_region.specs.Calls.{RegionSet}
use Rattle.cfg_chain.specs.Settings.{alone}
use Rattle.cfg_credentials_chain.specs.Members.{NamedAsked, ByDefault}

-- Behind the members that were there stands a default chain over this configuration, in the region that the
-- default region chain gave. The journal grew by exactly the part of that.
pub record EndsByDefault {D : Type 0} (d : Ghosts D) (conf : Configuration) (before after : List NamedAsked) (old new : Held D) : Type 0 where
  pub chain : Configuration
  pub set : RegionSet d None conf old new chain
  pub are : after ≡ before ++ (codes "DefaultProviderChain", ByDefault (alone chain)) ∷ []
