-- One holding of a section of a token, over the rules of any kind.
use Rattle.std.specs.Prelude.{◌≡◌, List, Result, map}
use Rattle.cfg_types.specs.Environment.{Variables}
use Rattle.cfg_types.specs.declared.settings.CallSettings.{CallSettings}
use Rattle.cfg_world.specs.declared.asking.Asking.{Ghosts}
use Rattle.cfg_world.specs.declared.asking.Stop.{Stop}
use Rattle.cfg_world.specs.Inquiry.{Inquiry, Done, after}
use Rattle.cfg_token.specs.declared.token_key.TokenKey.{TokenKey}
use Rattle.cfg_token.specs.declared.sections.Sectioned.{Sectioned}
use Rattle.cfg_token.specs.declared.sections.Sectioned.TheVariants.{Hit, Load}
use Rattle.cfg_token.specs.Rules.{Rules}
use Rattle.cfg_token.specs.Sections.{section, answer_of, ok_of, noted_or}
use Rattle.cfg_token.specs.Histories.{History, kept_in, last_in}
use Rattle.cfg_kept.specs.declared.found.Found.{Found}
use Rattle.cfg_kept.specs.FoundValues.{bare}
use Rattle.cfg_kept.specs.Kinds.{Spot, Value, KeptToken, spot_of}
use Rattle.cfg_kept.specs.KeptInquiry.{KeptInquiry}
use Rattle.cfg_kept.specs.Holds.{HoldsOne, holding}

-- what a history of loads keeps
abbrev pub kept_of : {T E : Type 0} → History T E → KeptToken T
kept_of history = record { token = kept_in history; last = last_in history }

-- what is kept after a section: a load leaves the token of an Ok, and none after an error
abbrev pub section_leaves : {T E : Type 0} → KeptToken T → Sectioned T E → KeptToken T
section_leaves was (Hit token) = was
section_leaves was (Load load) = record { token = ok_of load.outcome; last = noted_or load.noted was.last }

-- a section's answer, and what is kept after it
abbrev pub settled : {T E : Type 0} → KeptToken T → Sectioned T E → Inquiry (Result T E × KeptToken T)
settled was made = Done (answer_of made, section_leaves was made)

-- where the token of a kind is kept: its spot, a kept token as the value there, and the token in a value
pub record TokenSpot (T : Type 0) : Type 0 where
  pub spot : Spot
  pub at : KeptToken T → Value
  pub token_in : Value → KeptToken T

-- A kept token stands at the spot, and is the one in its value.
pub record IsSpot {T : Type 0} (s : TokenSpot T) : Type 0 where
  pub at_spot : (kept : KeptToken T) → spot_of (s.at kept) ≡ s.spot
  pub is_in : (kept : KeptToken T) → s.token_in (s.at kept) ≡ kept

module _ {T E : Type 0} (t : Rules T E) where
  -- a section on what is kept of the token
  abbrev pub kept_section : TokenKey → Variables → CallSettings → KeptToken T → Inquiry (Result T E × KeptToken T)
  kept_section key env settings was = after (section t key env settings was.token was.last) (settled was)

  -- one holding: a section on what was found, and what it leaves is kept
  unfoldable pub section_holding : TokenSpot T → TokenKey → Variables → CallSettings → KeptInquiry (Result T E)
  section_holding s key env settings = holding s.spot s.at (λ found. kept_section key env settings (s.token_in found))

-- One holding of a token, wherever its loads are kept: what they keep was found, and what the section
-- left is kept.
abbrev pub HoldsSection : {A T E : Type 0} → Rules T E → TokenSpot T → Ghosts A → TokenKey → Variables → CallSettings → A → List Found → History T E → A → List Found → History T E → Result (Result T E) Stop → Type 0
HoldsSection t s a key env settings old found before new more later result =
    HoldsOne a (section_holding t s key env settings) old new (map bare found) (map bare more) (s.at (kept_of before)) (s.at (kept_of later)) result
