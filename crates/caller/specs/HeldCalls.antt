-- Calls that hand out held credentials.
use Rattle.std.specs.Prelude.{Ok}
use Rattle.cfg_types.specs.Keys.{Keys}
use Rattle.cfg_world.specs.declared.devices.Devices.{Ghosts}
use Rattle.cfg_world.specs.Held.{Held as World}
use Rattle.cfg_chain.specs.Settings.{ChainSetting}
use Rattle.cfg_identity.specs.declared.settings.CacheSettings.{CacheSettings}
use Rattle.cfg_identity.specs.Cached.{CachesAny}
use Rattle.cfg_identity.specs.NameStates.{NameState, nothing_loaded}

-- held while more than ten seconds of the life are left, which is a quarter of an hour without an expiry
abbrev pub cache_settings : CacheSettings
cache_settings = record { buffer_seconds = 10; default_life_seconds = 900 }

-- Two calls under one name of a cache that gave these credentials. Nothing is held and kept before the first, and the
-- second is made on what the first one left: each hands out what is held, or calls the chain.
pub record TwoCalls {D : Type 0} (d : Ghosts D) (over : ChainSetting) (before later : World D) (first second : Keys) : Type 0 where
  pub between : World D
  pub left : NameState
  pub left_then : NameState
  pub one : CachesAny d cache_settings over nothing_loaded left before between (Ok first)
  pub other : CachesAny d cache_settings over left left_then between later (Ok second)
