-- Why there are no credentials, by the parts of a call.
use Rattle.std.proofs.Common.{◌≡◌, ℕ, List, [], ◌∷◌, ◌++◌, Option, Some, None, Result, Ok, Err, refl, sym, ap, ◌∙◌, subst, append-nil}
use Rattle.std.specs.Prelude.{option_map, codes}
use Rattle.std.specs.Result.{result_err}
use Rattle.cfg_types.specs.Environment.{variable}
use Rattle.cfg_types.specs.Replies.{role_in}
use Rattle.cfg_types.specs.declared.errors.CredentialsError.TheVariants.{Unhandled}
use Rattle.cfg_types.specs.declared.errors.sso.CachedSsoTokenError.{CachedSsoTokenError}
use Rattle.cfg_types.specs.declared.reply.sso.RoleReply.{RoleReply}
use Rattle.cfg_types.specs.declared.reply.sso.RoleCredentials.{RoleCredentials}
use Rattle.cfg_world.specs.declared.leaves.NotGranted.{NotGranted}
use Rattle.cfg_world.specs.declared.leaves.NotGranted.TheVariants.{Failed, Refused}
use Rattle.cfg_world.specs.Fits.{Pair}
use Rattle.cfg_world.specs.Inquiry as low
use Rattle.cfg_world.specs.Leaves.{clock, contents_of, reading_file, getting_role_credentials, granted_of}
use Rattle.cfg_profile.specs.Configuration.{Configuration}
use Rattle.cfg_profile.specs.Settings.{settings_of}
use Rattle.cfg_token.specs.declared.sso_token.CachedSsoToken.{CachedSsoToken}
use Rattle.cfg_token.specs.declared.token_key.TokenKey.{TokenKey}
use Rattle.cfg_token.specs.SsoTokens.{Given, sso_rules}
use Rattle.cfg_kept.specs.Kinds.{Value}
use Rattle.cfg_kept.specs.KeptInquiry.{Reads, lift}
use Rattle.cfg_kept.specs.SsoHoldings.{sso_spot}
use Rattle.cfg_kept.proofs.CallParts.{given_then, section_part}
use Rattle.cfg_kept.proofs.Splits.{split_onwards, lowered}
use Rattle.cfg_sso.specs.declared.config.SsoProviderConfig.{SsoProviderConfig}
use Rattle.cfg_sso.specs.RoleKeys.{Answer, keys_with, keys_in, role_keys, or_unhandled, role_answer, exchange}
use Rattle.cfg_sso.specs.Tokens.{Token, section_of, of_section, session_token, url_path, token_in, of_file, file_token, by_clock, at_path, url_token, sso_key, token_by, sso_token}
use Rattle.cfg_sso.specs.SsoCredentials.{behind_token, sso_credentials}
use Rattle.cfg_sso.specs.SsoCauses.{IsSsoPart, IsJudgedPart, IsFilePart, IsTokenPart, why_keys, why_reply, why_granted, IsBehind, SsoCause}
use Rattle.cfg_sso.specs.BearerTokens.{Bearer, bearer, bearer_token, BearerCause}

-- ---- the token

section_of_key : (conf : Configuration) (key : TokenKey) (found : List Value) (part : List Pair) (given : Given CachedSsoToken) → Reads (section_of conf key) found part given → IsSsoPart conf key found part given
section_of_key conf key found part given h = section_part sso_rules sso_spot key conf.environment (settings_of conf) found part given h

judged_part : (held : Token) (part : List Pair) (token : Token) → low.Reads (by_clock held) part token → IsJudgedPart held part token
unfolding by_clock clock
judged_part (Err e) [] token h = (refl, sym h)
judged_part (Err e) (x ∷ part) token h = absurd h
judged_part (Ok t) [] token h = absurd h
judged_part (Ok t) (e ∷ []) token h = (e.1, ap (λ q. (q, e.1) ∷ []) h.0, sym h.1)
judged_part (Ok t) (e ∷ f ∷ part) token h = absurd h.1

file_part : (path : Result (List ℕ) CachedSsoTokenError) (part : List Pair) (token : Token) → low.Reads (at_path path) part token → IsFilePart path part token
unfolding file_token reading_file
file_part (Err e) [] token h = (refl, sym h)
file_part (Err e) (x ∷ part) token h = absurd h
file_part (Ok path) [] token h = absurd h
file_part (Ok path) (e ∷ part) token h = (e.1, part, ap (λ q. (q, e.1) ∷ part) h.0, judged_part (of_file (token_in path (contents_of e.1))) part token h.1)

pub token_part : (conf : Configuration) (url : List ℕ) (key : Option TokenKey) (found : List Value) (part : List Pair) (token : Token) → Reads (token_by conf url key) found part token → IsTokenPart conf url key found part token
unfolding session_token url_token
token_part conf url None found part token h =
    let l = lowered (url_token conf.environment url) found part token h in
    (l.0, file_part (url_path url (variable conf.environment (codes "HOME"))) part token l.1)
token_part conf url (Some key) found part token h = let g = given_then (section_of conf key) of_section found part token h in (g.0, section_of_key conf key found part g.0 g.1, g.2)

-- ---- the request

keys_cause : (account : List ℕ) (given : RoleCredentials) (id secret : Option (List ℕ)) → result_err (or_unhandled (keys_with account given id secret)) ≡ option_map Unhandled (why_keys id secret)
keys_cause account given None secret = refl
keys_cause account given (Some id) None = refl
keys_cause account given (Some id) (Some secret) = refl

reply_cause : (account : List ℕ) (given : Option RoleCredentials) → result_err (or_unhandled (keys_in account given)) ≡ option_map Unhandled (why_reply given)
reply_cause account None = refl
reply_cause account (Some given) = keys_cause account given given.access_key_id given.secret_access_key

granted_cause : (account : List ℕ) (given : Result RoleReply NotGranted) → result_err (role_answer account given) ≡ why_granted given
unfolding role_answer role_keys
granted_cause account (Err (Failed kind)) = refl
granted_cause account (Err (Refused refusal)) = refl
granted_cause account (Ok reply) = reply_cause account reply.credentials

exchange_cause : (conf : Configuration) (sso : SsoProviderConfig) (token : CachedSsoToken) (part : List Pair) (out : Answer) → low.Reads (exchange conf sso token) part out → IsBehind conf sso (Ok token) part out
unfolding exchange getting_role_credentials
exchange_cause conf sso token [] out h = absurd h
exchange_cause conf sso token (e ∷ []) out h = (e.1, ap (λ q. (q, e.1) ∷ []) h.0, ap result_err (sym h.1) ∙ granted_cause sso.account_id (granted_of role_in e.1))
exchange_cause conf sso token (e ∷ f ∷ part) out h = absurd h.1

behind_cause : (conf : Configuration) (sso : SsoProviderConfig) (token : Token) (part : List Pair) (out : Answer) → low.Reads (behind_token conf sso token) part out → IsBehind conf sso token part out
unfolding behind_token
behind_cause conf sso (Ok token) part out h = exchange_cause conf sso token part out h
behind_cause conf sso (Err e) [] out h = (refl, ap result_err (sym h))
behind_cause conf sso (Err e) (x ∷ part) out h = absurd h

-- ---- the whole

pub sso_cause : (conf : Configuration) (sso : SsoProviderConfig) (found : List Value) (part : List Pair) (out : Answer) → Reads (sso_credentials conf sso) found part out → SsoCause conf sso found part out
unfolding sso_credentials sso_token
sso_cause conf sso found part out h =
    let s = split_onwards (sso_token conf sso) (λ t. lift (behind_token conf sso t)) found part out h in
    let l = lowered (behind_token conf sso s.middle) s.found_then s.rest out s.then in
    record {
      token_part = s.part;
      role_part = s.rest;
      parts = s.parts;
      token = s.middle;
      of_token = token_part conf sso.start_url (sso_key sso) found s.part s.middle
          (subst (λ f. Reads (sso_token conf sso) f s.part s.middle) (sym (s.finds ∙ ap (λ t. s.found_first ++ t) l.0 ∙ append-nil s.found_first)) s.first);
      behind = behind_cause conf sso s.middle s.rest out l.1;
    }

pub bearer_cause : (conf : Configuration) (key : TokenKey) (found : List Value) (part : List Pair) (out : Bearer) → Reads (bearer_token conf key) found part out → BearerCause conf key found part out
unfolding bearer_token
bearer_cause conf key found part out h =
    let g = given_then (section_of conf key) bearer found part out h in
    record { given = g.0; of_section = section_of_key conf key found part g.0 g.1; tells = g.2 }
