-- Tokens of sessions have not expired.
use Rattle.std.proofs.Common.{◌≡◌, List, Result, Ok, Err, sym, subst, inl, inr}
use Rattle.std.specs.Prelude.{IfOk}
use Rattle.cfg_types.specs.declared.errors.token.TokenError.{TokenError}
use Rattle.cfg_world.specs.Fits.{Pair}
use Rattle.cfg_kept.specs.Kinds.{Value}
use Rattle.cfg_profile.specs.Configuration.{Configuration}
use Rattle.cfg_sso.specs.BearerTokens.{Bearer, IsUnexpired}
use Rattle.cfg_sso.proofs.BearerTokens.{bearer_lasts}
use Rattle.cfg_token.specs.declared.token_key.TokenKey.{TokenKey}
use Rattle.cfg_token_chain.specs.Members.{Asked, OfProfile, OfSession, ByDefault, Given, ByCaller, TokenCause}
use Rattle.cfg_token_chain.specs.ProfileTokens.{IsSessionPart, ProfileTokenCause, DefaultTokenCause}
use Rattle.cfg_token_chain.specs.Sessions.{profile_session}
use Rattle.cfg_token_chain.specs.Unexpired.{GivesUnexpired}

-- an error is no token
no_token : (part : List Pair) (out : Bearer) (e : TokenError) → out ≡ Err e → IfOk out (IsUnexpired part)
no_token part out e is = subst (λ (o : Bearer). IfOk o (IsUnexpired part)) (sym is) tt

session_lasts : (conf : Configuration) (session : Result TokenKey TokenError) (found : List Value) (part : List Pair) (out : Bearer) → IsSessionPart conf session found part out → IfOk out (IsUnexpired part)
session_lasts conf (Ok key) found part out c = bearer_lasts conf key found part out c
session_lasts conf (Err e) found part out c = no_token part out e c.2

pub profile_lasts : (conf : Configuration) (found : List Value) (part : List Pair) (out : Bearer) → ProfileTokenCause conf found part out → IfOk out (IsUnexpired part)
profile_lasts conf found part out c = session_lasts conf (profile_session conf) found part out c

pub default_lasts : (conf : Configuration) (found : List Value) (part : List Pair) (out : Bearer) → DefaultTokenCause conf found part out → IfOk out (IsUnexpired part)
default_lasts conf found part out (inl h) = no_token part out _ h.10.2
default_lasts conf found part out (inr h) = profile_lasts conf found part out h.0

pub member_lasts : (member : Asked) (found : List Value) (part : List Pair) (out : Bearer) → TokenCause member found part out → GivesUnexpired member part out
member_lasts (OfProfile conf) found part out c = profile_lasts conf found part out c
member_lasts (OfSession s) found part out c = bearer_lasts s.configuration s.key found part out c
member_lasts (ByDefault conf) found part out c = default_lasts conf found part out c
member_lasts (Given token) found part out c = tt
member_lasts (ByCaller answer) found part out c = tt
