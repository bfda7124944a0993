-- What a builder of a profile's provider was set to, and what it builds.
use Rattle.std.specs.Prelude.{ℕ, List, [], ◌∷◌, ◌++◌, None}
use Rattle.std.specs.declared.alloc.Global.{Global}
use Rattle.std.specs.declared.dyn_box.DynBox.{DynBox}
use Rattle.cfg_providers.specs.CustomSources.{Answer, NamedAnswer}
use Rattle.cfg_region.specs.ProfileSetups.{ProfileSetup, no_profile_set, profile_configured}
use Rattle.cfg_chain.specs.declared.profile.credentials.Builder.{Builder}
use Rattle.cfg_chain.specs.Settings.{ChainSetting}
use Rattle.cfg_chain.specs.Views.{of_box, sources_by}

pub record ProviderSetup : Type 0 where
  -- the configuration, and the name and the sections that are in place of its own
  pub profile : ProfileSetup
  -- the caller's own sources, each with what it answers
  pub sources : List NamedAnswer

-- a builder that nothing was given to
abbrev pub no_provider_set : ProviderSetup
no_provider_set = record { profile = no_profile_set; sources = [] }

abbrev pub with_profile_setup : (ProfileSetup → ProfileSetup) → ProviderSetup → ProviderSetup
with_profile_setup change s = record s { profile = change s.profile }

-- one source more, behind the others
abbrev pub with_provider : List ℕ → Answer → ProviderSetup → ProviderSetup
with_provider name answer s = record s { sources = s.sources ++ (name, answer) ∷ [] }

module _ {V : Type 0} {I : V → Type 0} where
  -- a builder, by what its caller's sources answer by the meaning of their boxes
  abbrev pub provider_setup_by : (DynBox V Global I → Answer) → Builder V I → ProviderSetup
  provider_setup_by value b = record { profile = b.settings; sources = sources_by value b.custom_sources.items }

  -- the same, by the meaning of their interface
  abbrev pub provider_setup : ((v : V) × I v → Answer) → Builder V I → ProviderSetup
  provider_setup value b = provider_setup_by (of_box value) b

-- the provider that is built; it is given no metadata client
abbrev pub provider_configured : ProviderSetup → ChainSetting
provider_configured s = record { configuration = profile_configured s.profile; sources = s.sources; client = None }
