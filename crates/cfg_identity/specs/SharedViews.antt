-- A shared cache, as contracts see it.
use Rattle.std.specs.Prelude.{ℕ, List, Option, option_map}
use Rattle.cfg_exchange.specs.Classifiers.{Repeats}
use Rattle.cfg_providers.specs.CustomSources.{Answer}
use Rattle.cfg_chain.specs.Settings.{ChainSetting}
use Rattle.cfg_chain.specs.Views.{chain_of}
use Rattle.cfg_identity.specs.declared.shared.SharedIdentityCache.{SharedIdentityCache}
use Rattle.cfg_identity.specs.Names.{at_name}

module _ {V W : Type 0} {I : V → Type 0} {J : W → Type 0} where
  -- the setting of the chain under each name
  abbrev pub setting_at : ((v : V) × I v → Answer) → ((w : W) × J w → Repeats) → SharedIdentityCache V W I J → List ℕ → Option ChainSetting
  setting_at value repeated cache name = option_map (λ slot. chain_of value repeated slot.chain) (at_name cache.names.numbers cache.slots.items name)
