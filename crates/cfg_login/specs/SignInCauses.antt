-- Why there are no credentials of a sign-in session.
use Rattle.std.specs.Prelude.{◌≡◌, ℕ, List}
use Rattle.cfg_world.specs.Fits.{Pair}
use Rattle.cfg_profile.specs.Configuration.{Configuration}
use Rattle.cfg_profile.specs.Settings.{settings_of}
use Rattle.cfg_token.specs.declared.token_key.TokenKey.TheVariants.{Login}
use Rattle.cfg_login_token.specs.declared.login_token.LoginToken.{LoginToken}
use Rattle.cfg_login_token.specs.LoginTokens.{Given, login_rules}
use Rattle.cfg_kept.specs.Kinds.{Value}
use Rattle.cfg_kept.specs.LoginHoldings.{login_spot}
use Rattle.cfg_kept.specs.SectionParts.{IsSectionPart}
use Rattle.cfg_login.specs.declared.asked_by.AskedBy.{AskedBy}
use Rattle.cfg_login.specs.SignIns.{Answer, credentials_in}

-- The part is that of a section of the token of this session, by this configuration.
abbrev pub IsSignInPart : Configuration → List ℕ → List Value → List Pair → Given LoginToken → Type 0
IsSignInPart conf session found part given = IsSectionPart login_rules login_spot (Login session) conf.environment (settings_of conf) found part given

-- The part of a call is that of a section. The answer is an error exactly where the section gave one,
-- and tells of that.
pub record SignInCause (conf : Configuration) (session : List ℕ) (by : AskedBy) (found : List Value) (part : List Pair) (out : Answer) : Type 0 where
  pub given : Given LoginToken
  pub of_section : IsSignInPart conf session found part given
  pub tells : out ≡ credentials_in by given
