-- Where a region comes from, as contracts see it.
use Rattle.std.specs.declared.alloc.Global.{Global}
use Rattle.std.specs.declared.dyn_box.DynBox.{DynBox}
use Rattle.cfg_types.specs.Environment.{Variables}
use Rattle.cfg_world.specs.Inquiry.{Inquiry, Done}
use Rattle.cfg_profile.specs.Configuration.{Configuration}
use Rattle.cfg_exchange.specs.Classifiers.{Repeats}
use Rattle.cfg_region.specs.declared.source.RegionSource.{RegionSource}
use Rattle.cfg_region.specs.declared.source.RegionSource.TheVariants as source
use Rattle.cfg_region.specs.Defaults.{DefaultRegions, default_tree}
use Rattle.cfg_region.specs.Environments.{Told, environment_region}
use Rattle.cfg_region.specs.Metadata.{metadata_region}
use Rattle.cfg_region.specs.MetadataSetups.{MetadataRegion, provider_of}
use Rattle.cfg_region.specs.Profiles.{profile_region}

-- A region that was given, or none; the environment by its variables; the selected profile of a
-- configuration; instance metadata; a default chain; or what a caller's own source tells.
pub data Source : Type 0 where
  Given : (region : Told) → Source
  ByEnvironment : (variables : Variables) → Source
  ByProfile : (configuration : Configuration) → Source
  ByMetadata : (metadata : MetadataRegion) → Source
  ByDefault : (chain : DefaultRegions) → Source
  ByCaller : (told : Told) → Source

-- What a source asks and, over the answers, the region that it gives.
unfoldable pub tree : Source → Inquiry Told
tree (Given region) = Done region
tree (ByEnvironment env) = Done (environment_region env)
tree (ByProfile conf) = Done (profile_region conf)
tree (ByMetadata m) = metadata_region m.variables m.client
tree (ByDefault d) = default_tree d
tree (ByCaller told) = Done told

module _ {V W : Type 0} {I : V → Type 0} {J : W → Type 0} where
  -- a source, with what a caller's own tells and what a classifier repeats by the meaning of their
  -- interfaces
  abbrev pub source_of : (DynBox W Global J → Told) → ((v : V) × I v → Repeats) → RegionSource V W I J → Source
  source_of told repeated (source.Fixed region) = Given region
  source_of told repeated (source.Environment env) = ByEnvironment env
  source_of told repeated (source.Profile conf) = ByProfile conf
  source_of told repeated (source.Imds provider) = ByMetadata (provider_of repeated provider)
  source_of told repeated (source.Default chain) = ByDefault chain
  source_of told repeated (source.Custom own) = ByCaller (told own)

  -- the same where a crate above speaks of it
  abbrev pub region_source : ((w : W) × J w → Told) → ((v : V) × I v → Repeats) → RegionSource V W I J → Source
  region_source told repeated s = source_of (λ b. told (b.vtable, b.value)) repeated s
