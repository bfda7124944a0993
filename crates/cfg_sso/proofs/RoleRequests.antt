-- One request for a role, with the token of the part before it.
use Rattle.std.proofs.Common.{◌≡◌, ℕ, List, ◌∷◌, ◌++◌, Bool, true, false, Option, Some, None, Result, Ok, Err, refl, sym, ap, ◌∙◌, subst, append-nil, inl, inr}
use Rattle.std.specs.Prelude.{◌⊎◌, codes, is_ok, IfOk, if◌then◌else◌}
use Rattle.std.specs.Result.{result_err}
use Rattle.cfg_types.specs.Environment.{variable}
use Rattle.cfg_types.specs.declared.errors.CredentialsError.{CredentialsError}
use Rattle.cfg_types.specs.declared.errors.sso.CachedSsoTokenError.{CachedSsoTokenError}
use Rattle.cfg_base.specs.Moment.{Moment}
use Rattle.cfg_world.specs.declared.ask.Question.TheVariants as question
use Rattle.cfg_world.specs.declared.ask.Answer.{Answer as Answered}
use Rattle.cfg_world.specs.Fits.{Pair}
use Rattle.cfg_world.specs.Leaves.{contents_of, moment_of}
use Rattle.cfg_profile.specs.Configuration.{Configuration}
use Rattle.cfg_profile.specs.Settings.{settings_of}
use Rattle.cfg_token.specs.declared.sso_token.CachedSsoToken.{CachedSsoToken}
use Rattle.cfg_token.specs.declared.token_key.TokenKey.{TokenKey}
use Rattle.cfg_token.specs.SsoTokens.{Given, sso_rules}
use Rattle.cfg_kept.specs.Kinds.{Value, sso_in}
use Rattle.cfg_sso.specs.declared.config.SsoProviderConfig.{SsoProviderConfig}
use Rattle.cfg_sso.specs.RoleKeys.{Answer}
use Rattle.cfg_sso.specs.Tokens.{Token, url_path, token_in, of_file, judged, of_section, sso_key}
use Rattle.cfg_sso.specs.SsoCauses.{IsJudgedPart, IsFilePart, IsTokenPart, IsBehind, SsoCause}
use Rattle.cfg_world.specs.LastReadings.{last_reading}
use Rattle.cfg_token.specs.Moments.{is_before}
use Rattle.cfg_token.specs.Readings.{EndsAfter}
use Rattle.cfg_token.specs.SsoTells.{sso_tells}
use Rattle.cfg_token.proofs.Readings.{section_lasts}
use Rattle.cfg_sso.specs.RoleRequests.{AsksNoRole, SendsOnce, SendsNothing}
use Rattle.cfg_sso.proofs.SectionWalks.{section_asks_no_role}

judged_asks_no_role : (held : Token) (part : List Pair) (token : Token) → IsJudgedPart held part token → AsksNoRole part
judged_asks_no_role (Err e) part token h = subst AsksNoRole (sym h.0) tt
judged_asks_no_role (Ok t) part token h = subst AsksNoRole (sym h.1) (refl, tt)

file_asks_no_role : (path : Result (List ℕ) CachedSsoTokenError) (part : List Pair) (token : Token) → IsFilePart path part token → AsksNoRole part
file_asks_no_role (Err e) part token h = subst AsksNoRole (sym h.0) tt
file_asks_no_role (Ok path) part token h = subst AsksNoRole (sym h.2) (refl, judged_asks_no_role (of_file (token_in path (contents_of h.0))) h.1 token h.3)

token_asks_no_role : (conf : Configuration) (url : List ℕ) (key : Option TokenKey) (found : List Value) (part : List Pair) (token : Token) → IsTokenPart conf url key found part token → AsksNoRole part
token_asks_no_role conf url None found part token h = file_asks_no_role (url_path url (variable conf.environment (codes "HOME"))) part token h.1
token_asks_no_role conf url (Some key) found part token h =
    let s = h.1 in
    section_asks_no_role sso_rules (λ k t f. refl) key conf.environment (settings_of conf) (sso_in s.value).token (sso_in s.value).last part s.made s.reads

-- a token that is told is one that the section gave
given_token : (given : Given CachedSsoToken) (token : CachedSsoToken) → ◌≡◌ {A = Token} (Ok token) (of_section given) → given ≡ Ok token
unfolding of_section
given_token (Ok t) token h = cc
given_token (Err e) token h = cc

lasting : (part : List Pair) (answer given : Given CachedSsoToken) (token : CachedSsoToken) → given ≡ answer → given ≡ Ok token → IfOk answer (λ t. EndsAfter (last_reading part) t.expires_at) → EndsAfter (last_reading part) token.expires_at
lasting part answer given token is ok h = subst (λ r. IfOk r (λ t. EndsAfter (last_reading part) t.expires_at)) (sym is ∙ ok) h

-- ---- of a start URL

no_token : (token : CachedSsoToken) (e : CredentialsError) → ◌≡◌ {A = Token} (Ok token) (Err e) → ⊥
no_token token e h = absurd cc

-- a token that is judged to be in time ends after the reading
by_test : (b : Bool) (held token : CachedSsoToken) (e : CredentialsError) → ◌≡◌ {A = Token} (Ok token) (if b then Ok held else Err e) → (b ≡ true) × (held ≡ token)
by_test true held token e h = (refl, cc)
by_test false held token e h = absurd (no_token token e h)

in_time : (held token : CachedSsoToken) (now : Moment) → ◌≡◌ {A = Token} (Ok token) (judged held now) → is_before now token.expires_at ≡ true
unfolding judged
in_time held token now h =
    let t = by_test (is_before now held.expires_at) held token _ h in
    subst (λ (x : CachedSsoToken). is_before now x.expires_at ≡ true) t.1 t.0

judged_lasts : (held : Token) (path : List ℕ) (given : Answered) (rest : List Pair) (token : CachedSsoToken) → IsJudgedPart held rest (Ok token) → EndsAfter (last_reading ((question.Read path, given) ∷ rest)) token.expires_at
judged_lasts (Err e) path given rest token h = absurd (no_token token e h.1)
judged_lasts (Ok t) path given rest token h =
    subst (λ r. EndsAfter (last_reading ((question.Read path, given) ∷ r)) token.expires_at) (sym h.1) (in_time t token (moment_of h.0) h.2)

file_lasts : (path : Result (List ℕ) CachedSsoTokenError) (part : List Pair) (token : CachedSsoToken) → IsFilePart path part (Ok token) → EndsAfter (last_reading part) token.expires_at
unfolding of_file
file_lasts (Err e) part token h = absurd (no_token token _ h.1)
file_lasts (Ok path) part token h =
    subst (λ p. EndsAfter (last_reading p) token.expires_at) (sym h.2) (judged_lasts (of_file (token_in path (contents_of h.0))) path h.0 h.1 token h.3)

-- ---- of either

pub token_lasts : (conf : Configuration) (url : List ℕ) (key : Option TokenKey) (found : List Value) (part : List Pair) (token : CachedSsoToken) → IsTokenPart conf url key found part (Ok token) →
    EndsAfter (last_reading part) token.expires_at
token_lasts conf url None found part token h = file_lasts (url_path url (variable conf.environment (codes "HOME"))) part token h.1
token_lasts conf url (Some key) found part token h =
    let s = h.1 in
    lasting part _ h.0 token s.gives (given_token h.0 token h.2)
    (section_lasts sso_rules sso_tells key conf.environment (settings_of conf) (sso_in s.value).token (sso_in s.value).last part s.made s.reads)

no_credentials : (out : Answer) (e : CredentialsError) → result_err out ≡ Some e → is_ok out ≡ false
no_credentials (Ok keys) e h = cc
no_credentials (Err x) e h = refl

sends : (conf : Configuration) (sso : SsoProviderConfig) (found : List Value) (part token_part role_part : List Pair) (token : Token) (out : Answer) → part ≡ token_part ++ role_part →
    IsTokenPart conf sso.start_url (sso_key sso) found token_part token → IsBehind conf sso token role_part out → SendsOnce conf sso found part ⊎ SendsNothing part out
sends conf sso found part token_part role_part (Ok token) out parts of_token behind = inl (record {
  token_part = token_part;
  token = token;
  given = behind.0;
  parts = parts ∙ ap (λ t. token_part ++ t) behind.1;
  of_token = of_token;
  alone = token_asks_no_role conf sso.start_url (sso_key sso) found token_part (Ok token) of_token;
  unexpired = token_lasts conf sso.start_url (sso_key sso) found token_part token of_token;
})
sends conf sso found part token_part role_part (Err e) out parts of_token behind = inr (record {
  alone = subst AsksNoRole (sym (parts ∙ ap (λ t. token_part ++ t) behind.0 ∙ append-nil token_part)) (token_asks_no_role conf sso.start_url (sso_key sso) found token_part (Err e) of_token);
  nothing = no_credentials out e behind.1;
})

pub sends_once : (conf : Configuration) (sso : SsoProviderConfig) (found : List Value) (part : List Pair) (out : Answer) → SsoCause conf sso found part out → SendsOnce conf sso found part ⊎ SendsNothing part out
sends_once conf sso found part out c = sends conf sso found part c.token_part c.role_part c.token out c.parts c.of_token c.behind
