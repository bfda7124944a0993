-- One holding of the section of a token of a sign-in session.
use Rattle.std.specs.Prelude.{refl}
use Rattle.cfg_types.specs.Environment.{Variables}
use Rattle.cfg_types.specs.declared.settings.CallSettings.{CallSettings}
use Rattle.cfg_token.specs.declared.token_key.TokenKey.{TokenKey}
use Rattle.cfg_login_token.specs.declared.login_token.LoginToken.{LoginToken}
use Rattle.cfg_login_token.specs.LoginTokens.{Given, login_rules}
use Rattle.cfg_kept.specs.Kinds.{LoginSection, Value, LoginAt, KeptToken, login_in}
use Rattle.cfg_kept.specs.KeptInquiry.{KeptInquiry}
use Rattle.cfg_kept.specs.SectionHoldings.{TokenSpot, IsSpot, section_holding}

-- a kept token of a sign-in session at its spot
abbrev pub login_at : KeptToken LoginToken → Value
login_at kept = LoginAt kept.token kept.last

abbrev pub login_spot : TokenSpot LoginToken
login_spot = record { spot = LoginSection; at = login_at; token_in = login_in }

pub login_is_spot : IsSpot login_spot
login_is_spot = record { at_spot = λ kept. refl; is_in = λ kept. refl }

-- one holding: a section on what is kept of the token, and what it leaves is kept
abbrev pub login_holding : TokenKey → Variables → CallSettings → KeptInquiry (Given LoginToken)
login_holding key env settings = section_holding login_rules login_spot key env settings
