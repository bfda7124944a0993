-- By which reading a section's bearer token lasts.
use Rattle.std.proofs.Common.{List, Ok, Err, refl, sym, subst}
use Rattle.std.specs.Prelude.{IfOk}
use Rattle.cfg_world.specs.Fits.{Pair}
use Rattle.cfg_world.specs.LastReadings.{last_reading}
use Rattle.cfg_profile.specs.Configuration.{Configuration}
use Rattle.cfg_profile.specs.Settings.{settings_of}
use Rattle.cfg_token.specs.declared.sso_token.CachedSsoToken.{CachedSsoToken}
use Rattle.cfg_token.specs.declared.token_key.TokenKey.{TokenKey}
use Rattle.cfg_token.specs.Readings.{EndsAfter}
use Rattle.cfg_token.specs.SsoTells.{sso_tells}
use Rattle.cfg_token.specs.SsoTokens.{Given, sso_rules}
use Rattle.cfg_token.proofs.Readings.{section_lasts}
use Rattle.cfg_kept.specs.Kinds.{Value, sso_in}
use Rattle.cfg_sso.specs.BearerTokens.{Bearer, bearer, IsUnexpired, BearerCause}

told_lasts : (part : List Pair) (given : Given CachedSsoToken) → IfOk given (λ token. EndsAfter (last_reading part) token.expires_at) → IfOk (bearer given) (IsUnexpired part)
unfolding bearer
told_lasts part (Ok token) h = record { end = token.expires_at; has_end = refl; after = h }
told_lasts part (Err e) h = tt

pub bearer_lasts : (conf : Configuration) (key : TokenKey) (found : List Value) (part : List Pair) (out : Bearer) → BearerCause conf key found part out → IfOk out (IsUnexpired part)
bearer_lasts conf key found part out c =
    let s = c.of_section in
    let was = sso_in s.value in
    let lasts = section_lasts sso_rules sso_tells key conf.environment (settings_of conf) was.token was.last part s.made s.reads in
    subst (λ (o : Bearer). IfOk o (IsUnexpired part)) (sym c.tells)
    (told_lasts part c.given (subst (λ (g : Given CachedSsoToken). IfOk g (λ token. EndsAfter (last_reading part) token.expires_at)) (sym s.gives) lasts))
