-- A chain of sources, as contracts see it.
use Rattle.std.specs.Prelude.{◌≡◌, List, [], ◌∷◌, ◌++◌, map}
use Rattle.std.specs.declared.alloc.Global.{Global}
use Rattle.std.specs.declared.dyn_box.DynBox.{DynBox}
use Rattle.cfg_profile.specs.Configuration.{Configuration}
use Rattle.cfg_exchange.specs.Classifiers.{Repeats}
use Rattle.cfg_world.specs.Inquiry.{Inquiry}
use Rattle.cfg_region.specs.declared.meta.region.RegionProviderChain.{RegionProviderChain}
use Rattle.cfg_region.specs.Chains.{first_given}
use Rattle.cfg_region.specs.Defaults.{DefaultRegions, IsDefault}
use Rattle.cfg_region.specs.Environments.{Told}
use Rattle.cfg_region.specs.Sources.{Source, ByDefault, tree, source_of}

module _ {V W : Type 0} {I : V → Type 0} {J : W → Type 0} where
  -- the sources of a chain, in order
  abbrev pub sources_of : (DynBox W Global J → Told) → ((v : V) × I v → Repeats) → RegionProviderChain V W I J → List Source
  sources_of told repeated chain = map (source_of told repeated) chain.sources.items

  -- the same where a crate above speaks of it
  abbrev pub region_sources : ((w : W) × J w → Told) → ((v : V) × I v → Repeats) → RegionProviderChain V W I J → List Source
  region_sources told repeated chain = sources_of (λ b. told (b.vtable, b.value)) repeated chain

-- what these sources ask, in order
abbrev pub trees : List Source → List (Inquiry Told)
trees sources = map tree sources

-- the tree of a chain of these sources
abbrev pub chain_tree : List Source → Inquiry Told
chain_tree sources = first_given (trees sources)

-- behind the sources that were there stands a default chain over this configuration
pub record EndsByDefault (conf : Configuration) (before after : List Source) : Type 0 where
  pub chain : DefaultRegions
  pub is_default : IsDefault conf chain
  pub are : after ≡ before ++ ByDefault chain ∷ []
