-- What the calls of a script answer.
use Rattle.std.specs.Prelude.{◌≡◌, ℕ, List, [], ◌∷◌, ◌++◌, length, Bool, true, false, Option, map, option_map, is_ok, codes, String, string_bytes}
use Rattle.std.specs.List.{flat_map}
use Rattle.std.specs.declared.alloc.Global.{Global}
use Rattle.cfg_base.specs.Text.{characters}
use Rattle.cfg_base.specs.Entries.{each_set}
use Rattle.cfg_types.specs.declared.environment.EnvText.{EnvText}
use Rattle.cfg_types.specs.declared.settings.RetryConfig.{RetryConfig}
use Rattle.cfg_world.specs.declared.script.DeviceLists.{DeviceLists}
use Rattle.cfg_world.specs.Fits.{Pair}
use Rattle.cfg_world.specs.declared.devices.Devices.{Ghosts}
use Rattle.cfg_world.specs.Asked.{Same, StandsOn}
use Rattle.cfg_world.specs.Held.{Held}
use Rattle.cfg_world.specs.Script as devices
use Rattle.cfg_world.specs.Script.{Given, start}
use Rattle.cfg_profile.specs.declared.sections.ProfileSource.{ProfileSource}
use Rattle.cfg_profile.specs.declared.sections.ProfileSource.TheVariants as source
use Rattle.cfg_profile.specs.SectionParts.{SectionParts}
use Rattle.cfg_profile.specs.SectionSets.{sections_by_name}
use Rattle.cfg_profile.specs.Configuration.{Configuration, nothing_configured}
use Rattle.cfg_kept.specs.Kinds.{Value, States, no_states}
use Rattle.cfg_providers.specs.CustomSources.{Answer, NamedAnswer}
use Rattle.cfg_chain.specs.Settings.{ChainSetting, with_sources}
use Rattle.cfg_chain.specs.Provides.{IsCall}
use Rattle.cfg_script.specs.Script.{Plain, PlainProfiles, Sections, RefusedSections, Section}
use Rattle.cfg_script.specs.Devices.{lists_of}
use Rattle.cfg_script.specs.declared.service.ServiceConfig.{ServiceConfig}
use Rattle.cfg_program.specs.declared.lines.LineForm.{LineForm}
use Rattle.cfg_program.specs.Why.{told_as}

-- the bytes of a text that may be left out
abbrev pub bytes_of : Option (String Global) → Option (List ℕ)
bytes_of text = option_map (λ t. string_bytes t) text

-- the region of such a name
abbrev pub region_of : Option (String Global) → Option (List ℕ)
region_of name = option_map characters (bytes_of name)

-- this configuration, with this region in place of its own
abbrev pub in_region : Configuration → Option (List ℕ) → Configuration
in_region conf region = record conf { region = region }

-- a section that a script says, as the chain sees it
abbrev pub section_parts : Section → SectionParts
section_parts s = record { name = s.0; properties = s.1 }

-- the sections that a script says, or their refusal
abbrev pub source_of : PlainProfiles → ProfileSource
source_of (Sections profiles sessions) = source.Sections (record {
  profiles = sections_by_name (map section_parts profiles);
  sessions = sections_by_name (map section_parts sessions);
  selected = codes "default";
})
source_of (RefusedSections reason) = source.Refused reason

-- how often calls are tried, where that is said
abbrev pub retry_of : Option ℕ → Option RetryConfig
retry_of attempts = option_map (λ n. record { max_attempts = n }) attempts

-- nothing is configured but how calls are sent
abbrev pub sent_by : ServiceConfig → Configuration
sent_by service = record (nothing_configured true) {
  use_fips = service.use_fips;
  use_dual_stack = service.use_dual_stack;
  retry_config = retry_of service.max_attempts;
  timeout_config = service.timeouts;
}

-- these variables, sections, selected name, whether providers may sleep, and how calls are sent
abbrev pub configured_by : List (List ℕ × EnvText) → ProfileSource → Option (List ℕ) → Bool → ServiceConfig → Configuration
configured_by variables profiles selected sleep service = record (sent_by service) {
  environment = each_set variables;
  profiles = profiles;
  profile_name = selected;
  sleep = sleep;
}

-- what a script configures, but for its region
abbrev pub configured : Plain → Configuration
configured p = configured_by p.variables (source_of p.profiles) p.selected p.sleep p.service

-- what a script configures
abbrev pub configuration_of : Plain → Configuration
configuration_of p = in_region (configured p) (option_map characters p.region)

-- scripted devices that nothing was asked of yet
pub record IsFresh (w : Held devices.Script) : Type 0 where
  pub journal : w.journal ≡ []
  pub place : w.devices.place ≡ start

-- A call that was made: the kept values that it found, its questions with their answers, what it came to,
-- and what it left kept.
pub record MadeOn (S : Type 0) : Type 0 where
  pub found : List Value
  pub journal : List Pair
  pub out : Answer
  pub kept : S

-- a call of a default chain, which leaves kept states
abbrev pub Made : Type 0
Made = MadeOn States

-- This call of a default chain of this setting was made on what was kept before it.
abbrev pub IsMade : ChainSetting → States → Made → Type 0
IsMade over before call = IsCall over before call.kept call.found call.journal call.out

-- the questions of all calls with their answers, in order
abbrev pub asked_by : {S : Type 0} → List (MadeOn S) → List Pair
asked_by calls = flat_map (λ call. call.journal) calls

-- what is written for a call, by its answer and its journal
abbrev pub Telling : Type 0
Telling = Answer → List Pair → List ℕ

-- what is written for all calls, in order
abbrev pub lines_of : {S : Type 0} → Telling → List (MadeOn S) → List ℕ
lines_of tells calls = flat_map (λ call. tells call.out call.journal) calls

-- whether the last call gave credentials
abbrev pub last_is_ok : {S : Type 0} → List (MadeOn S) → Bool
last_is_ok [] = false
last_is_ok (call ∷ []) = is_ok call.out
last_is_ok (call ∷ next ∷ later) = last_is_ok (next ∷ later)

-- calls of one kind, by what each is on what was kept before it
module _ {S : Type 0} (IsOne : S → MadeOn S → Type 0) where
  -- These calls were made one after another: the first one over what was kept before, each later one over
  -- what the call before it left, and this is kept behind the last.
  abbrev pub InTurn : S → List (MadeOn S) → S → Type 0
  InTurn before [] after = after ≡ before
  InTurn before (call ∷ later) after = IsOne before call × InTurn call.kept later after

  -- There are so many calls, one after another, and this is kept before the first. The answers to all of them,
  -- taken together, are those that the lists give. The last one has this outcome, and these lines are
  -- written for the calls.
  pub record AnswersFrom (first : S) (lists : DeviceLists) (count : ℕ) (tells : Telling) (is_credentials : Bool) (lines : List ℕ) : Type 0 where
    pub calls : List (MadeOn S)
    pub kept : S
    pub counted : length calls ≡ count
    pub made : InTurn first calls kept
    pub agrees : Given lists start (asked_by calls)
    pub credentials : is_credentials ≡ last_is_ok calls
    pub shows : lines ≡ lines_of tells calls

  module _ {D : Type 0} (d : Ghosts D) where
    -- One call more was made over these devices, on what was kept before it. Its journal is its own alone; its
    -- line stands behind the lines before it.
    pub record MakesCall (tells : Telling) (old new : S) (before later : D) (is_credentials : Bool) (lines lines_after : List ℕ) : Type 0 where
      pub call : MadeOn S
      pub made : IsOne old call
      pub left : call.kept ≡ new
      pub same : Same (d.allows before) (d.allows later)
      pub stands : StandsOn (d.stands before) (d.stands later) call.journal
      pub credentials : is_credentials ≡ is_ok call.out
      pub shows : lines_after ≡ lines ++ tells call.out call.journal

    -- So many calls were made over these devices, one after another, on what was kept before them. Their lines stand
    -- behind the lines before them.
    pub record MakesCalls (tells : Telling) (count : ℕ) (old new : S) (before later : D) (is_credentials : Bool) (lines lines_after : List ℕ) : Type 0 where
      pub calls : List (MadeOn S)
      pub counted : length calls ≡ count
      pub made : InTurn old calls new
      pub same : Same (d.allows before) (d.allows later)
      pub stands : StandsOn (d.stands before) (d.stands later) (asked_by calls)
      pub credentials : is_credentials ≡ last_is_ok calls
      pub shows : lines_after ≡ lines ++ lines_of tells calls

-- the calls of a default chain of this setting, where nothing is kept before the first
abbrev pub AnswersOver : ChainSetting → DeviceLists → ℕ → LineForm → Bool → List ℕ → Type 0
AnswersOver over lists count form is_credentials lines = AnswersFrom (IsMade over) no_states lists count (told_as over form) is_credentials lines

-- the calls of a script, with these sources of the caller's own and lines in this form
abbrev pub Answers : List NamedAnswer → LineForm → Plain → Bool → List ℕ → Type 0
Answers sources form p is_credentials lines = AnswersOver (with_sources (configuration_of p) sources) (lists_of p) p.calls form is_credentials lines
