-- A cache, as contracts see it.
use Rattle.std.specs.Prelude.{ℕ, List, Option, option_map}
use Rattle.cfg_exchange.specs.Classifiers.{Repeats}
use Rattle.cfg_providers.specs.CustomSources.{Answer}
use Rattle.cfg_chain.specs.Views.{chain_of}
use Rattle.cfg_identity.specs.declared.cache.IdentityCache.{IdentityCache}
use Rattle.cfg_identity.specs.declared.cache.Slot.{Slot}
use Rattle.cfg_identity.specs.declared.settings.CacheSettings.{CacheSettings}
use Rattle.cfg_identity.specs.Entries.{Entry}
use Rattle.cfg_identity.specs.Names.{at_name}
use Rattle.cfg_identity.specs.NameStates.{state_of}

module _ {V W : Type 0} {I : V → Type 0} {J : W → Type 0} where
  abbrev pub entry_of : ((v : V) × I v → Answer) → ((w : W) × J w → Repeats) → Slot V W I J → Entry
  entry_of value repeated slot = record { over = chain_of value repeated slot.chain; state = state_of slot.loaded }

  abbrev pub settings_of : IdentityCache V W I J → CacheSettings
  settings_of cache = cache.settings

  -- what stands under each name
  abbrev pub entry_at : ((v : V) × I v → Answer) → ((w : W) × J w → Repeats) → IdentityCache V W I J → List ℕ → Option Entry
  entry_at value repeated cache name = option_map (entry_of value repeated) (at_name cache.names.numbers cache.slots.items name)
