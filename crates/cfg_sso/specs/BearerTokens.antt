-- Bearer tokens of a session of IAM Identity Center.
use Rattle.std.specs.Prelude.{◌≡◌, Bool, false, List, Some, Result, Ok, Err}
use Rattle.cfg_base.specs.Moment.{Moment}
use Rattle.cfg_types.specs.Tokens.{BearerToken}
use Rattle.cfg_types.specs.TokenClasses.{token_class, is_memory_class}
use Rattle.cfg_types.specs.declared.errors.token.TokenError.{TokenError}
use Rattle.cfg_types.specs.declared.errors.token.TokenError.TheVariants.{ProviderError}
use Rattle.cfg_world.specs.Fits.{Pair}
use Rattle.cfg_world.specs.LastReadings.{last_reading}
use Rattle.cfg_profile.specs.Configuration.{Configuration}
use Rattle.cfg_token.specs.declared.sso_token.CachedSsoToken.{CachedSsoToken}
use Rattle.cfg_token.specs.declared.token_key.TokenKey.{TokenKey}
use Rattle.cfg_token.specs.Readings.{EndsAfter}
use Rattle.cfg_token.specs.SsoTokens.{Given}
use Rattle.cfg_kept.specs.Kinds.{Value}
use Rattle.cfg_kept.specs.KeptInquiry.{KeptInquiry, Gives, onwards}
use Rattle.cfg_sso.specs.Tokens.{section_of}
use Rattle.cfg_sso.specs.SsoCauses.{IsSsoPart}

abbrev pub Bearer : Type 0
Bearer = Result BearerToken TokenError

-- a section's token, with its access token as its text and its expiry; an error is told as such
unfoldable pub bearer : Given CachedSsoToken → Bearer
bearer (Ok token) = Ok (record { token = token.access_token; expiry = Some token.expires_at })
bearer (Err e) = Err (ProviderError e)

-- one section of the token of this key, and what it gives
unfoldable pub bearer_token : Configuration → TokenKey → KeptInquiry Bearer
bearer_token conf key = onwards (section_of conf key) (λ given. Gives (bearer given))

-- whether memory ran out
abbrev pub is_memory : Bearer → Bool
is_memory (Ok token) = false
is_memory (Err e) = is_memory_class (token_class e)

-- The part is that of a section, and the answer tells what it gave.
pub record BearerCause (conf : Configuration) (key : TokenKey) (found : List Value) (part : List Pair) (out : Bearer) : Type 0 where
  pub given : Given CachedSsoToken
  pub of_section : IsSsoPart conf key found part given
  pub tells : out ≡ bearer given

-- A token of this part has an end, which is after the last reading of the clock there.
pub record IsUnexpired (part : List Pair) (token : BearerToken) : Type 0 where
  pub end : Moment
  pub has_end : token.expiry ≡ Some end
  pub after : EndsAfter (last_reading part) end
