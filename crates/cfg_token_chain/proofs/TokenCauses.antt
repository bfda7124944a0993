-- Each answer has its cause.
use Rattle.std.proofs.Common.{◌≡◌, List, [], ◌∷◌, Result, Ok, Err, inl, inr, refl, sym}
use Rattle.cfg_types.specs.declared.errors.token.TokenError.{TokenError}
use Rattle.cfg_world.specs.Fits.{Pair}
use Rattle.cfg_kept.specs.ChainParts.{AreParts, MemberReads}
use Rattle.cfg_kept.specs.Kinds.{Value}
use Rattle.cfg_kept.specs.KeptInquiry.{Gives, Reads}
use Rattle.cfg_kept.proofs.ChainParts.{chain_parts}
use Rattle.cfg_meta.specs.AnswerRules.{asked_chain}
use Rattle.cfg_profile.specs.Configuration.{Configuration}
use Rattle.cfg_sso.specs.BearerTokens.{Bearer}
use Rattle.cfg_sso.proofs.SsoCauses.{bearer_cause}
use Rattle.cfg_token.specs.declared.token_key.TokenKey.{TokenKey}
use Rattle.cfg_token_chain.specs.Members.{Asked, OfProfile, OfSession, ByDefault, Given, ByCaller, member_tree, TokenCause}
use Rattle.cfg_token_chain.specs.ProfileTokens.{by_session, profile_token, IsSessionPart, ProfileTokenCause, default_members, default_token, DefaultTokenCause}
use Rattle.cfg_token_chain.specs.Sessions.{profile_session}
use Rattle.cfg_meta.specs.TokenAnswers.{token_rules}

-- an answer without a question
said_at_once : (said : Bearer) (found : List Value) (part : List Pair) (out : Bearer) → Reads (Gives said) found part out → (found ≡ []) × (part ≡ []) × (out ≡ said)
said_at_once said [] [] out h = (refl, refl, sym h.0)
said_at_once said [] (e ∷ part) out h = absurd h
said_at_once said (f ∷ found) part out h = absurd h

session_cause : (conf : Configuration) (session : Result TokenKey TokenError) (found : List Value) (part : List Pair) (out : Bearer) → Reads (by_session conf session) found part out → IsSessionPart conf session found part out
session_cause conf (Ok key) found part out h = bearer_cause conf key found part out h
session_cause conf (Err e) found part out h = said_at_once (Err e) found part out h

pub profile_cause : (conf : Configuration) (found : List Value) (part : List Pair) (out : Bearer) → Reads (profile_token conf) found part out → ProfileTokenCause conf found part out
unfolding profile_token
profile_cause conf found part out h = session_cause conf (profile_session conf) found part out h

with_cause : (conf : Configuration) (found : List Value) (part : List Pair) (out : Bearer) →
    AreParts (asked_chain token_rules) (MemberReads (asked_chain token_rules)) (default_members conf) [] found part out → DefaultTokenCause conf found part out
with_cause conf found part out (inl h) = inl (h.0, h.1, h.2, h.3, h.4, h.5, h.6, h.7, profile_cause conf h.0 h.2 h.4 h.8, h.9, h.10)
with_cause conf found part out (inr h) = inr (profile_cause conf found part out h.0, h.1)

pub default_cause : (conf : Configuration) (found : List Value) (part : List Pair) (out : Bearer) → Reads (default_token conf) found part out → DefaultTokenCause conf found part out
unfolding default_token
default_cause conf found part out h = with_cause conf found part out (chain_parts (asked_chain token_rules) (default_members conf) [] found part out h)

pub member_cause : (member : Asked) (found : List Value) (part : List Pair) (out : Bearer) → Reads (member_tree member) found part out → TokenCause member found part out
unfolding member_tree
member_cause (OfProfile conf) found part out h = profile_cause conf found part out h
member_cause (OfSession s) found part out h = bearer_cause s.configuration s.key found part out h
member_cause (ByDefault conf) found part out h = default_cause conf found part out h
member_cause (Given token) found part out h = said_at_once (Ok token) found part out h
member_cause (ByCaller answer) found part out h = said_at_once answer found part out h
