-- The calls of a script under one name of a cache.
use Rattle.std.specs.Prelude.{ℕ, List, Bool}
use Rattle.cfg_providers.specs.CustomSources.{NamedAnswer}
use Rattle.cfg_chain.specs.Settings.{ChainSetting, with_sources}
use Rattle.cfg_identity.specs.declared.settings.CacheSettings.{CacheSettings}
use Rattle.cfg_identity.specs.Cached.{IsCached}
use Rattle.cfg_identity.specs.NameStates.{NameState, nothing_loaded}
use Rattle.cfg_script.specs.Script.{Plain}
use Rattle.cfg_script.specs.Devices.{lists_of}
use Rattle.cfg_program.specs.declared.causes.Below.TheVariants.{Nothing}
use Rattle.cfg_program.specs.declared.lines.LineForm.TheVariants.{Call}
use Rattle.cfg_program.specs.Lines.{shown_as}
use Rattle.cfg_program.specs.Calls.{MadeOn, AnswersFrom, configuration_of}

-- held credentials are used while more than ten seconds of their life are left, and live a quarter of an hour where
-- they have no expiry
abbrev pub cache_settings : CacheSettings
cache_settings = record { buffer_seconds = 10; default_life_seconds = 900 }

-- This call under a name of such a cache, in which a default chain of this setting stands, was made on what was held
-- and kept before it: it is a hit or a load.
abbrev pub IsCachedCall : ChainSetting → NameState → MadeOn NameState → Type 0
IsCachedCall over before call = IsCached cache_settings over before call.kept call.found call.journal call.out

-- the calls of a script under one name, with these sources of the caller's own; nothing is held and kept before the first
abbrev pub CachedAnswers : List NamedAnswer → Plain → Bool → List ℕ → Type 0
CachedAnswers sources p is_credentials lines =
    AnswersFrom (IsCachedCall (with_sources (configuration_of p) sources)) nothing_loaded (lists_of p) p.calls (shown_as (Call Nothing)) is_credentials lines
