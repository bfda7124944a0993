-- What building a default chain of bearer tokens leaves of the world's journal.
use Rattle.std.specs.Prelude.{◌≡◌, ◌++◌, ◌∷◌, [], List, codes}
use Rattle.cfg_world.specs.declared.devices.Devices.{Ghosts}
use Rattle.cfg_world.specs.Held.{Held}
use Rattle.cfg_profile.specs.Configuration.{Configuration}
use Rattle.cfg_region.specs.Calls.{RegionSet, RegionBreaks}
use Rattle.cfg_token_chain.specs.ChainSetups.{ChainSetup, configuration_alone, chain_configured}
use Rattle.cfg_token_chain.specs.Members.{NamedAsked, ByDefault}

-- The journal grew by exactly the part of the source that is asked for the region. The chain has what the
-- builder was configured by, with the region that it gave.
abbrev pub IsBuilt : {D : Type 0} → Ghosts D → ChainSetup → Held D → Held D → Configuration → Type 0
IsBuilt d setup old new chain = RegionSet d setup.region (chain_configured setup) old new chain

-- Memory ran out: the journal grew by the beginning of that part.
abbrev pub BuildBreaks : {D : Type 0} → Ghosts D → ChainSetup → Held D → Held D → Type 0
BuildBreaks d setup old new = RegionBreaks d setup.region (chain_configured setup) old new

-- Behind the members that were there stands a default chain that was built over this configuration.
pub record EndsByDefault {D : Type 0} (d : Ghosts D) (conf : Configuration) (before after : List NamedAsked) (old new : Held D) : Type 0 where
  pub chain : Configuration
  pub built : IsBuilt d (configuration_alone conf) old new chain
  pub are : after ≡ before ++ (codes "DefaultProviderChain", ByDefault chain) ∷ []
