-- One holding of the section of a token of IAM Identity Center.
use Rattle.std.specs.Prelude.{refl}
use Rattle.cfg_types.specs.Environment.{Variables}
use Rattle.cfg_types.specs.declared.settings.CallSettings.{CallSettings}
use Rattle.cfg_token.specs.declared.token_key.TokenKey.{TokenKey}
use Rattle.cfg_token.specs.declared.sso_token.CachedSsoToken.{CachedSsoToken}
use Rattle.cfg_token.specs.SsoTokens.{Given, sso_rules}
use Rattle.cfg_kept.specs.Kinds.{SsoSection, Value, SsoAt, KeptToken, sso_in}
use Rattle.cfg_kept.specs.KeptInquiry.{KeptInquiry}
use Rattle.cfg_kept.specs.SectionHoldings.{TokenSpot, IsSpot, section_holding}

-- a kept token of IAM Identity Center at its spot
abbrev pub sso_at : KeptToken CachedSsoToken → Value
sso_at kept = SsoAt kept.token kept.last

abbrev pub sso_spot : TokenSpot CachedSsoToken
sso_spot = record { spot = SsoSection; at = sso_at; token_in = sso_in }

pub sso_is_spot : IsSpot sso_spot
sso_is_spot = record { at_spot = λ kept. refl; is_in = λ kept. refl }

-- one holding: a section on what is kept of the token, and what it leaves is kept
abbrev pub sso_holding : TokenKey → Variables → CallSettings → KeptInquiry (Given CachedSsoToken)
sso_holding key env settings = section_holding sso_rules sso_spot key env settings
