-- The token of the selected profile, and of the default chain, which asks that profile alone.
use Rattle.std.specs.Prelude.{◌≡◌, ℕ, List, [], ◌∷◌, Result, Ok, Err, codes}
use Rattle.cfg_types.specs.declared.errors.token.TokenError.{TokenError}
use Rattle.cfg_world.specs.Fits.{Pair}
use Rattle.cfg_kept.specs.Chains.{chain}
use Rattle.cfg_kept.specs.ChainParts.{AreParts}
use Rattle.cfg_kept.specs.Kinds.{Value}
use Rattle.cfg_kept.specs.KeptInquiry.{KeptInquiry, Gives}
use Rattle.cfg_meta.specs.AnswerRules.{asked_chain}
use Rattle.cfg_profile.specs.Configuration.{Configuration}
use Rattle.cfg_sso.specs.BearerTokens.{Bearer, bearer_token, BearerCause}
use Rattle.cfg_token.specs.declared.token_key.TokenKey.{TokenKey}
use Rattle.cfg_token_chain.specs.Sessions.{profile_session}
use Rattle.cfg_meta.specs.TokenAnswers.{token_rules}

-- ---- of the selected profile

abbrev pub by_session : Configuration → Result TokenKey TokenError → KeptInquiry Bearer
by_session conf (Ok key) = bearer_token conf key
by_session conf (Err e) = Gives (Err e)

-- one section of the token of the profile's session, or why there is none
unfoldable pub profile_token : Configuration → KeptInquiry Bearer
profile_token conf = by_session conf (profile_session conf)

-- Without a session nothing is found or asked, and the answer is why there is none. With one the part is
-- that of its section.
abbrev pub IsSessionPart : Configuration → Result TokenKey TokenError → List Value → List Pair → Bearer → Type 0
IsSessionPart conf (Ok key) found part out = BearerCause conf key found part out
IsSessionPart conf (Err e) found part out = (found ≡ []) × (part ≡ []) × (out ≡ Err e)

-- The answer of the profile has its cause.
abbrev pub ProfileTokenCause : Configuration → List Value → List Pair → Bearer → Type 0
ProfileTokenCause conf found part out = IsSessionPart conf (profile_session conf) found part out

-- ---- of the default chain

-- its one member: a name and a tree
abbrev pub default_members : Configuration → List (List ℕ × KeptInquiry Bearer)
default_members conf = (codes "Profile", profile_token conf) ∷ []

-- the default chain
unfoldable pub default_token : Configuration → KeptInquiry Bearer
default_token conf = chain (asked_chain token_rules) (default_members conf) []

-- The part is that of the profile, with its cause. Where the profile was not loaded the answer tells of
-- that, and else it is the profile's.
abbrev pub DefaultTokenCause : Configuration → List Value → List Pair → Bearer → Type 0
DefaultTokenCause conf found part out = AreParts (asked_chain token_rules) (λ _ mine piece given. ProfileTokenCause conf mine piece given) (default_members conf) [] found part out
