-- Where nothing stands in the way, there are credentials.
use Rattle.std.proofs.Common.{◌≡◌, ◌⊎◌, inl, inr, ℕ, Bool, true, false, not, ◌&&◌, cond, List, [], ◌∷◌, Option, Some, None, Result, Ok, Err, refl, sym, ap, ◌∙◌, subst, append-nil}
use Rattle.std.specs.Prelude.{codes, is_ok, IsSome, IsOk, option_map, if◌then◌else◌}
use Rattle.std.specs.Result.{result_err}
use Rattle.std.specs.Str.{encode_utf8_all}
use Rattle.cfg_base.specs.Moment.{Moment}
use Rattle.cfg_types.specs.Environment.{Variables, variable}
use Rattle.cfg_types.specs.Replies.{role_in}
use Rattle.cfg_types.specs.declared.environment.VarError.{VarError}
use Rattle.cfg_types.specs.declared.errors.CredentialsError.{CredentialsError}
use Rattle.cfg_types.specs.declared.errors.CredentialsError.TheVariants.{Unhandled}
use Rattle.cfg_types.specs.declared.errors.sso.CachedSsoTokenError.{CachedSsoTokenError}
use Rattle.cfg_types.specs.declared.errors.sso.SsoTokenProviderError.{SsoTokenProviderError}
use Rattle.cfg_types.specs.declared.reply.sso.RoleReply.{RoleReply}
use Rattle.cfg_types.specs.declared.reply.sso.RoleCredentials.{RoleCredentials}
use Rattle.cfg_types.specs.declared.settings.CallSettings.{CallSettings}
use Rattle.cfg_world.specs.declared.ask.Answer.{Answer as Given}
use Rattle.cfg_world.specs.declared.ask.Answer.TheVariants as answer
use Rattle.cfg_world.specs.declared.ask.Question.TheVariants as question
use Rattle.cfg_world.specs.declared.leaves.NotGranted.{NotGranted}
use Rattle.cfg_world.specs.Fits.{Pair}
use Rattle.cfg_world.specs.Inquiry.{Done, Reads, after}
use Rattle.cfg_world.specs.Leaves.{clock, moment_of, contents_of, granted_of}
use Rattle.cfg_profile.specs.Configuration.{Configuration}
use Rattle.cfg_profile.specs.Settings.{settings_of}
use Rattle.cfg_token.specs.declared.decision.Decision.{Decision}
use Rattle.cfg_token.specs.declared.decision.Decision.TheVariants.{Use, Refresh, Refuse}
use Rattle.cfg_token.specs.declared.file_token.Renewal.{Renewal}
use Rattle.cfg_token.specs.declared.file_token.Renewal.TheVariants.{Granted, Passed, Refused}
use Rattle.cfg_token.specs.declared.sections.Sectioned.{Sectioned}
use Rattle.cfg_token.specs.declared.sections.Sectioned.TheVariants.{Hit, Load}
use Rattle.cfg_token.specs.declared.sso_token.CachedSsoToken.{CachedSsoToken}
use Rattle.cfg_token.specs.declared.loading.Loaded.{Loaded}
use Rattle.cfg_token.specs.declared.token_key.TokenKey.{TokenKey}
use Rattle.cfg_token.specs.declared.token_key.TokenKey.TheVariants.{Sso}
use Rattle.cfg_token.specs.Decisions.{decision, ends_soon, is_refreshable, outlasts_buffer}
use Rattle.cfg_token.specs.Moments.{is_before}
use Rattle.cfg_token.specs.Sections
use Rattle.cfg_token.specs.SsoFile.{sso_file}
use Rattle.cfg_token.specs.SsoText.{sso_text}
use Rattle.cfg_token.specs.SsoTokens.{Given as GivenBy, home_path, loaded, sso_renewal, sso_rules}
use Rattle.cfg_token.specs.Readings.{IsHit}
use Rattle.cfg_token.proofs.Outcomes.{Gives, gives_reads, gives_after, gives_more}
use Rattle.cfg_token.proofs.Readings.{section_hits}
use Rattle.cfg_kept.specs.Kinds.{Value, sso_in}
use Rattle.cfg_kept.specs.SectionParts.{found_at}
use Rattle.cfg_kept.specs.SsoHoldings.{sso_spot}
use Rattle.cfg_sso.specs.declared.config.SsoProviderConfig.{SsoProviderConfig}
use Rattle.cfg_sso.specs.RoleKeys.{Answer}
use Rattle.cfg_sso.specs.Tokens.{Token, url_path, token_in, of_file, judged, of_section, key_by}
use Rattle.cfg_sso.specs.SsoCauses.{IsSsoPart, IsJudgedPart, IsFilePart, IsTokenPart, why_keys, why_reply, why_granted, IsBehind, SsoCause}
use Rattle.cfg_token.specs.Sections.{ok_of}
use Rattle.cfg_sso.specs.InNoWay.{held_token, IsHeldInTime, IsWritten, IsRenewed, IsRefreshed, IsInTime, IsSectionInTime, IsTokenInTime, HoldsKeys, IsGranted, AreGranted, NothingInTheWay}

abbrev Made : Type 0
Made = Sectioned CachedSsoToken SsoTokenProviderError

abbrev Outcome : Type 0
Outcome = Loaded CachedSsoToken SsoTokenProviderError

never : false ≡ true → ⊥
never h = cc

-- ---- a refresh

-- the load gave a token, where this holds
abbrev IfFine : Type 0 → Outcome → Type 0
IfFine P l = P → IsOk l.outcome

written_fine : (path : List ℕ) (now : Moment) (token : CachedSsoToken) (a : Given) → a ≡ answer.Written → IsOk (Sections.written sso_rules path now token a).outcome
written_fine path now token a is = subst (λ x. IsOk (Sections.written sso_rules path now token x).outcome) (sym is) refl

text_fine : (path : List ℕ) (now : Moment) (token : CachedSsoToken) (text : Option (List ℕ)) → Gives (Sections.saves_text sso_rules path now token (option_map encode_utf8_all text)) (λ part l. IfFine (IsSome text × IsWritten part) l)
text_fine path now token None = λ h. absurd (never h.0)
text_fine path now token (Some text) = λ a h. written_fine path now token a h.1

lasting_fine : (file : CachedSsoToken) (now : Moment) → is_before now file.expires_at ≡ true → IsOk (Sections.while_it_lasts sso_rules file now)
lasting_fine file now h = subst (λ b. IsOk (cond (not b) (Err sso_rules.expired) (Ok file))) (sym h) refl

renews_fine : (path : List ℕ) (file : CachedSsoToken) (now : Moment) (r : Renewal CachedSsoToken SsoTokenProviderError) → Gives (Sections.renews sso_rules path file now r) (λ part l. IfFine (IsRenewed file now part r) l)
unfolding Sections.saves
renews_fine path file now (Granted token) = text_fine path now token (sso_text token)
renews_fine path file now Passed = λ h. lasting_fine file now h
renews_fine path file now (Refused e noted) = λ h. absurd h

-- what has not expired is not refused
not_refused : (soon can : Bool) → cond (not true && not can) Refuse (cond (soon && can) Refresh Use) ≡ Refuse → ⊥
not_refused true true h = absurd cc
not_refused true false h = absurd cc
not_refused false true h = absurd cc
not_refused false false h = absurd cc

decided : (file : CachedSsoToken) (last : Option Moment) (now : Moment) → is_before now file.expires_at ≡ true → decision sso_rules file last now ≡ Refuse → ⊥
decided file last now before h =
    not_refused (ends_soon sso_rules file now) (is_refreshable sso_rules file last now)
    (subst (λ b. cond (not b && not (is_refreshable sso_rules file last now)) Refuse (cond (ends_soon sso_rules file now && is_refreshable sso_rules file last now) Refresh Use) ≡ Refuse) before h)

decides_fine : (key : TokenKey) (settings : CallSettings) (path : List ℕ) (file : CachedSsoToken) (last : Option Moment) (now : Moment) (d : Decision) → decision sso_rules file last now ≡ d →
    Gives (Sections.decides sso_rules key settings path file now d) (λ part l. IfFine (IsRefreshed key file now part) l)
unfolding Sections.refreshes Sections.asks_renewal
decides_fine key settings path file last now Refuse is = λ h. absurd (decided file last now h is)
decides_fine key settings path file last now Use is = λ h. refl
decides_fine key settings path file last now Refresh is = λ a. renews_fine path file now (sso_renewal key file now a)

-- ---- the file, and the reading behind it

module _ (key : TokenKey) (settings : CallSettings) (last : Option Moment) (path : List ℕ) (first : Pair) where
  -- what stands behind a file
  abbrev Behind : Option CachedSsoToken → List Pair → Type 0
  Behind held [] = IsSome held
  Behind held (second ∷ rest) = IsInTime key (moment_of second.1) rest held

  by_file : (file : Result CachedSsoToken CachedSsoTokenError) → Gives (Sections.judges_file sso_rules key settings last path (loaded file)) (λ part l. IfFine (Behind (ok_of file) part) l)
  unfolding Sections.judges clock
  by_file (Err e) = λ h. absurd (never h)
  by_file (Ok file) = λ a. decides_fine key settings path file last (moment_of a) (decision sso_rules file last (moment_of a)) refl

  unread : Gives (Sections.judges_file sso_rules key settings last path (Err (sso_rules.unread path))) (λ part l. IfFine (Behind None part) l)
  unread = λ h. absurd (never h)

  by_answer : (b : Given) → Gives (Sections.judges_file sso_rules key settings last path (Sections.read_as sso_rules path b)) (λ part l. IfFine (Behind (held_token b) part) l)
  by_answer (answer.Contents bytes) = by_file (sso_file bytes)
  by_answer (answer.Moment m) = unread
  by_answer (answer.Jitter n) = unread
  by_answer answer.Written = unread
  by_answer (answer.Finished finished) = unread
  by_answer (answer.Addresses addresses) = unread
  by_answer (answer.Replied reply) = unread
  by_answer (answer.Failed kind) = unread

  behind_in_time : (b : Given) (part : List Pair) → IsSectionInTime key (first ∷ (question.Read path, b) ∷ part) → Behind (held_token b) part
  behind_in_time b [] h = h
  behind_in_time b (second ∷ rest) h = h

  read_fine : (b : Given) → Gives (Sections.judges_file sso_rules key settings last path (Sections.read_as sso_rules path b)) (λ part l. IfFine (IsSectionInTime key (first ∷ (question.Read path, b) ∷ part)) l)
  read_fine b =
      gives_more (Sections.judges_file sso_rules key settings last path (Sections.read_as sso_rules path b)) (λ part l. IfFine (Behind (held_token b) part) l)
      (λ part l. IfFine (IsSectionInTime key (first ∷ (question.Read path, b) ∷ part)) l) (λ part l f h. f (behind_in_time b part h)) (by_answer b)

-- ---- a section

loads_fine : (key : TokenKey) (settings : CallSettings) (last : Option Moment) (first : Pair) (path : Result (List ℕ) SsoTokenProviderError) → IsOk path →
    Gives (Sections.loads_from sso_rules key settings last path) (λ part l. IfFine (IsSectionInTime key (first ∷ part)) l)
unfolding Sections.file
loads_fine key settings last first (Err e) h = absurd (never h)
loads_fine key settings last first (Ok path) h = λ b. read_fine key settings last path first b

-- the section gave a token, where its part is in time
abbrev IsFine : TokenKey → List Pair → Made → Type 0
IsFine key part made = IsSectionInTime key part → IsOk (Sections.answer_of made)

loaded_fine : (key : TokenKey) (env : Variables) (settings : CallSettings) (last : Option Moment) (a : Given) → IsOk (sso_rules.path key env) →
    Gives (after (Sections.load sso_rules key env settings last) (λ l. Done (Load l))) (λ part made. IsFine key ((question.Now, a) ∷ part) made)
unfolding Sections.load
loaded_fine key env settings last a home =
    gives_after (Sections.loads_from sso_rules key settings last (sso_rules.path key env)) (λ l. Done (Load l)) (λ part l. IfFine (IsSectionInTime key ((question.Now, a) ∷ part)) l)
    (λ part made. IsFine key ((question.Now, a) ∷ part) made) (loads_fine key settings last (question.Now, a) (sso_rules.path key env) home)
    (λ part l h. subst (λ (J : List Pair). IsFine key ((question.Now, a) ∷ J) (Load l)) (sym (append-nil part)) h)

section_fine : (key : TokenKey) (env : Variables) (settings : CallSettings) (kept : Option CachedSsoToken) (last : Option Moment) → IsOk (sso_rules.path key env) →
    Gives (Sections.section sso_rules key env settings kept last) (IsFine key)
unfolding Sections.section Sections.by_reading clock
section_fine key env settings None last home = λ a. loaded_fine key env settings last a home
section_fine key env settings (Some token) last home = λ a. either_way a (outlasts_buffer sso_rules token (moment_of a))
  where
    either_way : (a : Given) (fresh : Bool) → Gives (cond fresh (Done (Hit token)) (after (Sections.load sso_rules key env settings last) (λ l. Done (Load l)))) (λ part made. IsFine key ((question.Now, a) ∷ part) made)
    either_way a true = λ h. refl
    either_way a false = loaded_fine key env settings last a home

-- ---- the token

home_fine : (session : List ℕ) (home : Result (List ℕ) VarError) → IsOk home → IsOk (home_path session home)
home_fine session (Ok home) h = refl
home_fine session (Err e) h = absurd (never h)

told_fine : (given : GivenBy CachedSsoToken) → IsOk given → IsOk (of_section given)
unfolding of_section
told_fine (Ok token) h = refl
told_fine (Err e) h = absurd (never h)

abbrev IsTold : Token → Type 0
IsTold token = IsOk token

chosen_fine : (b : Bool) (token : CachedSsoToken) (e : CredentialsError) → b ≡ true → IsTold (if b then Ok token else Err e)
chosen_fine true token e h = refl
chosen_fine false token e h = absurd (never h)

judged_fine : (token : CachedSsoToken) (now : Moment) → is_before now token.expires_at ≡ true → IsOk (judged token now)
unfolding judged
judged_fine token now h = chosen_fine (is_before now token.expires_at) token _ h

-- what a file holds is in time, by the reading behind it
abbrev IsHeldBy : Option CachedSsoToken → List Pair → Type 0
IsHeldBy held [] = IsSome held
IsHeldBy held (reading ∷ part) = IsHeldInTime (moment_of reading.1) held

same_first : (x y : Pair) (part : List Pair) → x ∷ part ≡ y ∷ [] → x ≡ y
same_first x y part h = cc

no_reading : (y : Pair) → ◌≡◌ {A = List Pair} [] (y ∷ []) → ⊥
no_reading y h = absurd cc

held_fine : (file : Result CachedSsoToken CachedSsoTokenError) (rest : List Pair) (token : Token) → IsHeldBy (ok_of file) rest → IsJudgedPart (of_file file) rest token → IsOk token
unfolding of_file
held_fine (Err e) [] token h j = absurd (never h)
held_fine (Err e) (r ∷ rest) token h j = absurd h
held_fine (Ok t) [] token h j = absurd (no_reading _ j.1)
held_fine (Ok t) (r ∷ rest) token h j =
    subst (λ (x : Token). IsOk x) (sym j.2)
    (judged_fine t (moment_of j.0) (subst (λ (x : Pair). is_before (moment_of x.1) t.expires_at ≡ true) (same_first r _ rest j.1) h))

-- an answer that is no content holds no token
holds_none : (given : Given) (rest : List Pair) (P : Type 0) → held_token given ≡ None → IsHeldBy (held_token given) rest → P
holds_none given [] P is h = absurd (never (subst IsSome is h))
holds_none given (r ∷ rest) P is h = absurd (subst (IsHeldInTime (moment_of r.1)) is h)

told_fine_by : (path : List ℕ) (given : Given) (rest : List Pair) (token : Token) → IsHeldBy (held_token given) rest → IsJudgedPart (of_file (token_in path (contents_of given))) rest token → IsOk token
unfolding token_in
told_fine_by path (answer.Contents bytes) rest token h j = held_fine (sso_file bytes) rest token h j
told_fine_by path (answer.Moment m) rest token h j = holds_none (answer.Moment m) rest (IsOk token) refl h
told_fine_by path (answer.Jitter n) rest token h j = holds_none (answer.Jitter n) rest (IsOk token) refl h
told_fine_by path answer.Written rest token h j = holds_none answer.Written rest (IsOk token) refl h
told_fine_by path (answer.Finished finished) rest token h j = holds_none (answer.Finished finished) rest (IsOk token) refl h
told_fine_by path (answer.Addresses addresses) rest token h j = holds_none (answer.Addresses addresses) rest (IsOk token) refl h
told_fine_by path (answer.Replied reply) rest token h j = holds_none (answer.Replied reply) rest (IsOk token) refl h
told_fine_by path (answer.Failed kind) rest token h j = holds_none (answer.Failed kind) rest (IsOk token) refl h

held_first : (file : Pair) (rest : List Pair) → IsTokenInTime None (file ∷ rest) → IsHeldBy (held_token file.1) rest
held_first file [] h = h
held_first file (r ∷ rest) h = h

held_by : (part : List Pair) (file : Pair) (rest : List Pair) → part ≡ file ∷ rest → IsTokenInTime None part → IsHeldBy (held_token file.1) rest
held_by part file rest is h = held_first file rest (subst (IsTokenInTime None) is h)

file_fine : (url : List ℕ) (home : Result (List ℕ) VarError) (part : List Pair) (token : Token) → IsHit sso_rules None part ⊎ IsOk home → IsTokenInTime None part → IsFilePart (url_path url home) part token → IsOk token
file_fine url home part token (inl h) t p = absurd h
file_fine url (Err e) part token (inr h) t p = absurd (never h)
file_fine url (Ok home) part token (inr h) t p = told_fine_by _ p.0 p.1 token (held_by part _ p.1 p.2 t) p.3

made_fine : (key : TokenKey) (env : Variables) (settings : CallSettings) (kept : Option CachedSsoToken) (last : Option Moment) (part : List Pair) (made : Made) → IsHit sso_rules kept part ⊎ IsOk (sso_rules.path key env) →
    IsSectionInTime key part → Reads (Sections.section sso_rules key env settings kept last) part made → IsOk (Sections.answer_of made)
made_fine key env settings kept last part made (inl hit) t reads = section_hits sso_rules key env settings kept last part made reads hit
made_fine key env settings kept last part made (inr path) t reads = gives_reads (Sections.section sso_rules key env settings kept last) (IsFine key) part made (section_fine key env settings kept last path) reads t

path_fine : (session : List ℕ) (home : Result (List ℕ) VarError) (kept : Option CachedSsoToken) (part : List Pair) → IsHit sso_rules kept part ⊎ IsOk home → IsHit sso_rules kept part ⊎ IsOk (home_path session home)
path_fine session home kept part (inl hit) = inl hit
path_fine session home kept part (inr known) = inr (home_fine session home known)

session_fine : (conf : Configuration) (session region url : List ℕ) (found : List Value) (part : List Pair) (token : Token) → IsHit sso_rules (found_at sso_spot found).token part ⊎ IsOk (variable conf.environment (codes "HOME")) →
    IsSectionInTime (Sso session region url) part → (given : GivenBy CachedSsoToken) → IsSsoPart conf (Sso session region url) found part given → token ≡ of_section given → IsOk token
session_fine conf session region url found part token home t given s told =
    let key = Sso session region url in
    let was = sso_in s.value in
    let known = path_fine session (variable conf.environment (codes "HOME")) was.token part
    (subst (λ (f : List Value). IsHit sso_rules (found_at sso_spot f).token part ⊎ IsOk (variable conf.environment (codes "HOME"))) s.finds home) in
    let fine = made_fine key conf.environment (settings_of conf) was.token was.last part s.made known t s.reads in
    subst (λ (x : Token). IsOk x) (sym told) (told_fine given (subst (λ (x : GivenBy CachedSsoToken). IsOk x) (sym s.gives) fine))

token_fine : (conf : Configuration) (name : Option (List ℕ)) (region url : List ℕ) (found : List Value) (part : List Pair) (token : Token) →
    IsHit sso_rules (found_at sso_spot found).token part ⊎ IsOk (variable conf.environment (codes "HOME")) → IsTokenInTime (key_by name region url) part → IsTokenPart conf url (key_by name region url) found part token → IsOk token
token_fine conf None region url found part token home t p =
    file_fine url (variable conf.environment (codes "HOME")) part token
    (subst (λ (f : List Value). IsHit sso_rules (found_at sso_spot f).token part ⊎ IsOk (variable conf.environment (codes "HOME"))) p.0 home) t p.1
token_fine conf (Some session) region url found part token home t p = session_fine conf session region url found part token home t p.0 p.1 p.2

-- ---- the request

keys_fine : (id secret : Option (List ℕ)) → IsSome id → IsSome secret → why_keys id secret ≡ None
keys_fine None secret h k = absurd (never h)
keys_fine (Some id) None h k = absurd (never k)
keys_fine (Some id) (Some secret) h k = refl

reply_fine : (given : Option RoleCredentials) → HoldsKeys given → why_reply given ≡ None
reply_fine None h = absurd h
reply_fine (Some given) h = keys_fine given.access_key_id given.secret_access_key h.id h.secret

granted_fine : (given : Result RoleReply NotGranted) → IsGranted given → why_granted given ≡ None
granted_fine (Ok reply) h = ap (option_map Unhandled) (reply_fine reply.credentials h)
granted_fine (Err reason) h = absurd h

no_error : (out : Answer) → result_err out ≡ None → is_ok out ≡ true
no_error (Ok keys) h = refl
no_error (Err e) h = cc

behind_fine : (conf : Configuration) (sso : SsoProviderConfig) (token : Token) (part : List Pair) (out : Answer) → IsOk token → AreGranted part → IsBehind conf sso token part out → is_ok out ≡ true
behind_fine conf sso (Err e) part out h g b = absurd (never h)
behind_fine conf sso (Ok token) part out h g b = no_error out (b.2 ∙ granted_fine (granted_of role_in b.0) (subst AreGranted b.1 g))

-- ---- the whole

pub nothing_in_the_way : (conf : Configuration) (sso : SsoProviderConfig) (found : List Value) (part : List Pair) (out : Answer) (c : SsoCause conf sso found part out) →
    NothingInTheWay conf sso found c.token_part c.role_part → is_ok out ≡ true
nothing_in_the_way conf sso found part out c n =
    behind_fine conf sso c.token c.role_part out
    (token_fine conf sso.session_name sso.region sso.start_url found c.token_part c.token n.home n.token c.of_token) n.role c.behind
