-- What the part of one section of a kept token shows.
use Rattle.std.specs.Prelude.{◌≡◌, List, [], ◌∷◌, Result}
use Rattle.cfg_types.specs.Environment.{Variables}
use Rattle.cfg_types.specs.declared.settings.CallSettings.{CallSettings}
use Rattle.cfg_world.specs.Fits.{Pair}
use Rattle.cfg_world.specs.Inquiry.{Reads}
use Rattle.cfg_token.specs.declared.token_key.TokenKey.{TokenKey}
use Rattle.cfg_token.specs.declared.sections.Sectioned.{Sectioned}
use Rattle.cfg_token.specs.Rules.{Rules}
use Rattle.cfg_token.specs.Sections.{section, answer_of}
use Rattle.cfg_kept.specs.Kinds.{Value, KeptToken, no_token, spot_of}
use Rattle.cfg_kept.specs.SectionHoldings.{TokenSpot}

-- what was found of the token of this kind
abbrev pub found_at : {T : Type 0} → TokenSpot T → List Value → KeptToken T
found_at s [] = no_token
found_at s (value ∷ found) = s.token_in value

-- The part of a section found this value, and gave this token or error by the rules of the section.
pub record IsSectionPart {T E : Type 0} (t : Rules T E) (s : TokenSpot T) (key : TokenKey) (env : Variables) (settings : CallSettings) (found : List Value) (part : List Pair) (given : Result T E) : Type 0 where
  pub value : Value
  pub spot : spot_of value ≡ s.spot
  pub finds : found ≡ value ∷ []
  pub made : Sectioned T E
  pub reads : Reads (section t key env settings (s.token_in value).token (s.token_in value).last) part made
  pub gives : given ≡ answer_of made
