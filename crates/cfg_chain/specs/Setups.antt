-- What a builder of the default chain was set to, and what it builds.
use Rattle.std.specs.Prelude.{◌≡◌, ◌++◌, ◌∷◌, [], ℕ, List, true, Option, None, option_map, string_bytes}
use Rattle.std.specs.declared.alloc.Global.{Global}
use Rattle.std.specs.declared.dyn_box.DynBox.{DynBox}
use Rattle.cfg_exchange.specs.Classifiers.{Repeats}
use Rattle.cfg_imds.specs.Clients.{ClientRules, client_rules}
use Rattle.cfg_profile.specs.Configuration.{Configuration, nothing_configured}
use Rattle.cfg_providers.specs.CustomSources.{Answer, NamedAnswer}
use Rattle.cfg_region.specs.Calls.{RegionSet, RegionBreaks}
use Rattle.cfg_region.specs.Environments.{Told}
use Rattle.cfg_region.specs.ProfileSetups.{with_name}
use Rattle.cfg_region.specs.Sources.{Source, region_source}
use Rattle.cfg_world.specs.declared.devices.Devices.{Ghosts}
use Rattle.cfg_world.specs.Held.{Held}
use Rattle.cfg_chain.specs.declared.default_provider.credentials.Builder.{Builder}
use Rattle.cfg_chain.specs.Settings.{ChainSetting}
use Rattle.cfg_chain.specs.Views.{of_box, sources_by}

pub record Setup : Type 0 where
  pub configuration : Configuration
  -- in place of the configuration's
  pub profile_name : Option (List ℕ)
  -- where the region comes from, where that was set
  pub region : Option Source
  -- the caller's own sources, each with what it answers
  pub sources : List NamedAnswer
  -- how the metadata client asks that was given, where one was
  pub client : Option ClientRules

-- a builder that nothing was given to
abbrev pub nothing_set : Setup
nothing_set = record { configuration = nothing_configured true; profile_name = None; region = None; sources = []; client = None }

-- what the chain that is built is configured by, but for its region
abbrev pub configured : Setup → Configuration
configured s = with_name s.profile_name s.configuration

abbrev pub with_region : Option Source → Setup → Setup
with_region source s = record s { region = source }

-- one source more, behind the others
abbrev pub with_source : List ℕ → Answer → Setup → Setup
with_source name answer s = record s { sources = s.sources ++ (name, answer) ∷ [] }

module _ {V W X : Type 0} {I : V → Type 0} {J : W → Type 0} {K : X → Type 0} where
  -- a builder, with what a caller's source answers by the meaning of its box, and what a source of a region tells
  -- and what a classifier repeats by the meaning of their interfaces
  abbrev pub setup_by : (DynBox X Global K → Answer) → ((w : W) × J w → Told) → ((v : V) × I v → Repeats) → Builder V W X I J K → Setup
  setup_by value told repeated b = record {
    configuration = b.config;
    profile_name = option_map (λ s. string_bytes s) b.profile_name;
    region = option_map (region_source told repeated) b.region;
    sources = sources_by value b.custom_sources.items;
    client = option_map (λ client. client_rules repeated client) b.imds_client;
  }

  -- the same, all by the meaning of their interfaces
  abbrev pub setup : ((x : X) × K x → Answer) → ((w : W) × J w → Told) → ((v : V) × I v → Repeats) → Builder V W X I J K → Setup
  setup value told repeated b = setup_by (of_box value) told repeated b

-- The source of the region was asked, and what it gives, none included, is the region of the chain, which is
-- otherwise as the builder was set to.
pub record Builds {D : Type 0} (d : Ghosts D) (s : Setup) (before later : Held D) (over : ChainSetting) : Type 0 where
  pub set : RegionSet d s.region (configured s) before later over.configuration
  pub sources : over.sources ≡ s.sources
  pub client : over.client ≡ s.client

-- Memory ran out: before anything was asked, or while the source was.
abbrev pub BuildBreaks : {D : Type 0} → Ghosts D → Setup → Held D → Held D → Type 0
BuildBreaks d s before later = RegionBreaks d s.region (configured s) before later
