-- What a script says, without where it lies in memory.
use Rattle.std.specs.Prelude.{ℕ, List, Bool, Option, option_map, map, string_bytes, String, Vec}
use Rattle.std.specs.declared.alloc.Global.{Global}
use Rattle.cfg_base.specs.TextMap.{named}
use Rattle.cfg_types.specs.declared.environment.EnvText.{EnvText}
use Rattle.cfg_world.specs.declared.ask.Answer.{Answer}
use Rattle.cfg_world.specs.declared.script.DeviceLists.{DeviceLists}
use Rattle.cfg_script.specs.declared.script.Script.{Script}
use Rattle.cfg_script.specs.declared.script.ShareScript.{ShareScript}
use Rattle.cfg_script.specs.declared.script.AuditScript.{AuditScript}
use Rattle.cfg_script.specs.declared.script.ScriptProfiles.{ScriptProfiles}
use Rattle.cfg_script.specs.declared.script.ScriptProfiles.TheVariants as held
use Rattle.cfg_script.specs.declared.service.ServiceConfig.{ServiceConfig}

-- a key and its value, as bytes
abbrev pub Property : Type 0
Property = List ℕ × List ℕ

-- a name, as bytes, and the properties of the section
abbrev pub Section : Type 0
Section = List ℕ × List Property

-- the sections of profile files, or the message that they are refused with, as characters
pub data PlainProfiles : Type 0 where
  Sections : List Section → List Section → PlainProfiles
  RefusedSections : List ℕ → PlainProfiles

-- names and texts as their bytes, devices as values
pub record Plain : Type 0 where
  pub variables : List (List ℕ × EnvText)
  pub profiles : PlainProfiles
  pub selected : Option (List ℕ)
  pub region : Option (List ℕ)
  pub sleep : Bool
  pub service : ServiceConfig
  pub calls : ℕ
  pub devices : DeviceLists

-- a property that the program holds, as bytes
abbrev pub property_bytes : String Global × String Global → Property
property_bytes p = (string_bytes p.0, string_bytes p.1)

-- a section that the program holds, as bytes
abbrev pub section_bytes : String Global × Vec (String Global × String Global) Global → Section
section_bytes s = (string_bytes s.0, map property_bytes s.1.items)

-- the profiles that the program holds
abbrev pub plain_profiles : ScriptProfiles → PlainProfiles
plain_profiles (held.Sections profiles sessions) = Sections (map section_bytes profiles.items) (map section_bytes sessions.items)
plain_profiles (held.Refused message) = RefusedSections message

-- what a script says
abbrev pub plain : Script → Plain
plain s = record {
  variables = map named s.variables.items;
  profiles = plain_profiles s.profiles;
  selected = option_map (λ t. string_bytes t) s.selected;
  region = option_map (λ t. string_bytes t) s.region;
  sleep = s.sleep;
  service = s.service;
  calls = s.calls;
  devices = s.devices;
}

-- the settings of a script of several callers, and the devices of each
pub record PlainShare : Type 0 where
  pub variables : List (List ℕ × EnvText)
  pub profiles : PlainProfiles
  pub selected : Option (List ℕ)
  pub region : Option (List ℕ)
  pub sleep : Bool
  pub service : ServiceConfig
  pub calls : ℕ
  pub callers : List DeviceLists

-- what such a script says
abbrev pub plain_share : ShareScript → PlainShare
plain_share s = record {
  variables = map named s.variables.items;
  profiles = plain_profiles s.profiles;
  selected = option_map (λ t. string_bytes t) s.selected;
  region = option_map (λ t. string_bytes t) s.region;
  sleep = s.sleep;
  service = s.service;
  calls = s.calls;
  callers = s.callers.items;
}

-- what one call is configured with, and a journal, by the kinds of its questions and by their answers
pub record PlainAudit : Type 0 where
  pub variables : List (List ℕ × EnvText)
  pub profiles : PlainProfiles
  pub selected : Option (List ℕ)
  pub region : Option (List ℕ)
  pub sleep : Bool
  pub service : ServiceConfig
  pub journal : List (List ℕ × Answer)

-- what such a script says
abbrev pub plain_audit : AuditScript → PlainAudit
plain_audit s = record {
  variables = map named s.variables.items;
  profiles = plain_profiles s.profiles;
  selected = option_map (λ t. string_bytes t) s.selected;
  region = option_map (λ t. string_bytes t) s.region;
  sleep = s.sleep;
  service = s.service;
  journal = s.journal.items;
}
