-- What a section gives is of a session.
use Rattle.std.proofs.Common.{ℕ, Bool, true, false, cond, List, [], ◌∷◌, ◌++◌, Option, Some, None, IfSome, Ok, Err, refl, sym, ap, subst}
use Rattle.std.specs.Prelude.{IfOk}
use Rattle.cfg_base.specs.Gives.{◌>>=◌}
use Rattle.cfg_base.specs.Moment.{Moment}
use Rattle.cfg_types.specs.Environment.{Variables}
use Rattle.cfg_types.specs.Field.{field_name}
use Rattle.cfg_types.specs.declared.document.Field.TheVariants as field
use Rattle.cfg_types.specs.declared.errors.login.LoginTokenError.{LoginTokenError}
use Rattle.cfg_types.specs.declared.reply.Reply.{Reply}
use Rattle.cfg_types.specs.declared.reply.Reply.TheVariants as reply
use Rattle.cfg_types.specs.declared.reply.sign_in.SignInToken.{SignInToken}
use Rattle.cfg_types.specs.declared.settings.CallSettings.{CallSettings}
use Rattle.cfg_world.specs.declared.ask.Answer.{Answer as Given}
use Rattle.cfg_world.specs.declared.ask.Answer.TheVariants as answer
use Rattle.cfg_world.specs.Fits.{Pair}
use Rattle.cfg_world.specs.Inquiry.{Done, after}
use Rattle.cfg_world.specs.Leaves.{clock, moment_of}
use Rattle.cfg_profile.specs.Configuration.{Configuration}
use Rattle.cfg_profile.specs.Settings.{settings_of}
use Rattle.cfg_token.specs.declared.decision.Decision.{Decision}
use Rattle.cfg_token.specs.declared.decision.Decision.TheVariants.{Use, Refresh, Refuse}
use Rattle.cfg_token.specs.declared.file_token.Renewal.{Renewal}
use Rattle.cfg_token.specs.declared.file_token.Renewal.TheVariants.{Granted, Passed, Refused}
use Rattle.cfg_token.specs.declared.sections.Sectioned.{Sectioned}
use Rattle.cfg_token.specs.declared.sections.Sectioned.TheVariants.{Hit, Load}
use Rattle.cfg_token.specs.declared.loading.Loaded.{Loaded}
use Rattle.cfg_token.specs.declared.token_key.TokenKey.{TokenKey}
use Rattle.cfg_token.specs.declared.token_key.TokenKey.TheVariants.{Login}
use Rattle.cfg_token.specs.Decisions.{decision, is_expired, outlasts_buffer}
use Rattle.cfg_token.specs.Sections
use Rattle.cfg_token.specs.SsoFile.{text_of}
use Rattle.cfg_token.specs.SsoTokens.{end_of}
use Rattle.cfg_token.proofs.Outcomes.{Gives, gives_reads, gives_after}
use Rattle.cfg_login_token.specs.declared.access.AccessKeys.{AccessKeys}
use Rattle.cfg_login_token.specs.declared.login_token.LoginToken.{LoginToken}
use Rattle.cfg_login_token.specs.Access.{Read, last_place, access_at, login_keys}
use Rattle.cfg_login_token.specs.LoginFile.{login_file, members_of_file, token_of, key_of, required}
use Rattle.cfg_login_token.specs.LoginTokens.{Given as GivenBy, by_token, login_renewal, login_rules, renewed_to}
use Rattle.cfg_kept.specs.Kinds.{Value, login_in}
use Rattle.cfg_login.specs.declared.asked_by.AskedBy.{AskedBy}
use Rattle.cfg_login.specs.SignIns.{Answer, credentials_in, feature_of}
use Rattle.cfg_login.specs.SignInCauses.{SignInCause}
use Rattle.cfg_login.specs.SessionKeys.{IsOfSession, FindsSession}

abbrev IsToken : LoginToken → Type 0
IsToken token = IsOfSession [] token.access_token

abbrev Made : Type 0
Made = Sectioned LoginToken LoginTokenError

abbrev Outcome : Type 0
Outcome = Loaded LoginToken LoginTokenError

-- ---- a file

-- what holds of each outcome of the second holds of the two
each_then : {A : Type 0} (p : Read A) (f : A → Read LoginToken) → ((x : A) → IfOk (f x) IsToken) → IfOk (p >>= f) IsToken
each_then (Ok x) f h = h x
each_then (Err e) f h = tt

session_keys : (keys : AccessKeys) (account : List ℕ) → IsOfSession [] (login_keys keys account)
session_keys keys account = record { name = refl; session_token = refl; expiry = refl; account = refl; features = refl }

file_is : (bytes : List ℕ) → IfOk (login_file bytes) IsToken
unfolding login_file token_of
file_is bytes =
    each_then (members_of_file bytes) _ (λ ms.
    each_then (access_at bytes (last_place (field_name field.AccessToken) ms)) _ (λ access.
    each_then (required field.LowerAccessKeyId access) _ (λ keys.
    each_then (required field.LowerAccountId keys.account_id) _ (λ account.
    each_then (required field.ClientId (text_of ms field.ClientId)) _ (λ client.
    each_then (required field.DpopKey (key_of ms)) _ (λ key.
    each_then (required field.RefreshToken (text_of ms field.RefreshToken)) _ (λ refresh. session_keys keys account)))))))

read_is : (path : List ℕ) (a : Given) → IfOk (Sections.read_as login_rules path a) IsToken
read_is path (answer.Contents bytes) = file_is bytes
read_is path (answer.Moment m) = tt
read_is path (answer.Jitter n) = tt
read_is path answer.Written = tt
read_is path (answer.Finished finished) = tt
read_is path (answer.Addresses addresses) = tt
read_is path (answer.Replied reply) = tt
read_is path (answer.Failed kind) = tt

-- ---- a refresh

abbrev IfGranted : Renewal LoginToken LoginTokenError → Type 0
IfGranted (Granted new) = IsToken new
IfGranted Passed = Unit {0}
IfGranted (Refused e noted) = Unit {0}

ended_is : (file : LoginToken) (given : SignInToken) (end : Option Moment) → IsToken file → IfGranted (renewed_to file given end)
ended_is file given None h = tt
ended_is file given (Some end) h = record { name = refl; session_token = refl; expiry = refl; account = h.account; features = refl }

token_is : (file : LoginToken) (now : Moment) (given : Option SignInToken) → IsToken file → IfGranted (by_token file now given)
token_is file now None h = tt
token_is file now (Some given) h = ended_is file given (end_of now given.expires_in) h

reply_is : (file : LoginToken) (now : Moment) (r : Reply) → IsToken file → IfGranted (login_renewal file now (answer.Replied r))
reply_is file now (reply.SignIn given) h = token_is file now given.token h
reply_is file now (reply.Refused refusal) h = tt
reply_is file now (reply.Http given) h = tt
reply_is file now (reply.Sts given) h = tt
reply_is file now (reply.Role given) h = tt
reply_is file now (reply.Token given) h = tt

renewal_is : (file : LoginToken) (now : Moment) (a : Given) → IsToken file → IfGranted (login_renewal file now a)
renewal_is file now (answer.Replied r) h = reply_is file now r h
renewal_is file now (answer.Moment m) h = tt
renewal_is file now (answer.Jitter n) h = tt
renewal_is file now (answer.Contents bytes) h = tt
renewal_is file now answer.Written h = tt
renewal_is file now (answer.Finished finished) h = tt
renewal_is file now (answer.Addresses addresses) h = tt
renewal_is file now (answer.Failed kind) h = tt

written_is : (path : List ℕ) (now : Moment) (token : LoginToken) (a : Given) → IsToken token → IfOk (Sections.written login_rules path now token a).outcome IsToken
written_is path now token answer.Written h = h
written_is path now token (answer.Moment m) h = h
written_is path now token (answer.Jitter n) h = h
written_is path now token (answer.Contents bytes) h = h
written_is path now token (answer.Finished finished) h = h
written_is path now token (answer.Addresses addresses) h = h
written_is path now token (answer.Replied reply) h = h
written_is path now token (answer.Failed kind) h = h

text_is : (path : List ℕ) (now : Moment) (token : LoginToken) (text : Option (List ℕ)) → IsToken token → Gives (Sections.saves_text login_rules path now token text) (λ part l. IfOk l.outcome IsToken)
text_is path now token None h = h
text_is path now token (Some text) h = λ a. written_is path now token a h

lasting_is : (file : LoginToken) (now : Moment) → IsToken file → IfOk (Sections.while_it_lasts login_rules file now) IsToken
lasting_is file now h = either_way (is_expired login_rules file now)
  where
    either_way : (b : Bool) → IfOk (cond b (Err login_rules.expired) (Ok file)) IsToken
    either_way true = tt
    either_way false = h

renews_is : (path : List ℕ) (file : LoginToken) (now : Moment) (r : Renewal LoginToken LoginTokenError) → IsToken file → IfGranted r → Gives (Sections.renews login_rules path file now r) (λ part l. IfOk l.outcome IsToken)
unfolding Sections.saves
renews_is path file now (Granted token) h k = text_is path now token (login_rules.text token) k
renews_is path file now Passed h k = lasting_is file now h
renews_is path file now (Refused e noted) h k = tt

decides_is : (key : TokenKey) (settings : CallSettings) (path : List ℕ) (file : LoginToken) (now : Moment) (d : Decision) → IsToken file → Gives (Sections.decides login_rules key settings path file now d) (λ part l. IfOk l.outcome IsToken)
unfolding Sections.refreshes Sections.asks_renewal
decides_is key settings path file now Refuse h = tt
decides_is key settings path file now Use h = h
decides_is key settings path file now Refresh h = λ a. renews_is path file now (login_renewal file now a) h (renewal_is file now a h)

-- ---- a section

judges_is : (key : TokenKey) (settings : CallSettings) (last : Option Moment) (path : List ℕ) (file : GivenBy LoginToken) → IfOk file IsToken → Gives (Sections.judges_file login_rules key settings last path file) (λ part l. IfOk l.outcome IsToken)
unfolding Sections.judges clock
judges_is key settings last path (Err e) h = tt
judges_is key settings last path (Ok file) h = λ a. decides_is key settings path file (moment_of a) (decision login_rules file last (moment_of a)) h

loads_is : (key : TokenKey) (settings : CallSettings) (last : Option Moment) (path : GivenBy (List ℕ)) → Gives (Sections.loads_from login_rules key settings last path) (λ part l. IfOk l.outcome IsToken)
unfolding Sections.file
loads_is key settings last (Err e) = tt
loads_is key settings last (Ok path) = λ a. judges_is key settings last path (Sections.read_as login_rules path a) (read_is path a)

abbrev GivesSession : Made → Type 0
GivesSession made = IfOk (Sections.answer_of made) IsToken

loaded_is : (key : TokenKey) (env : Variables) (settings : CallSettings) (last : Option Moment) → Gives (after (Sections.load login_rules key env settings last) (λ l. Done (Load l))) (λ part made. GivesSession made)
unfolding Sections.load
loaded_is key env settings last =
    gives_after (Sections.loads_from login_rules key settings last (login_rules.path key env)) (λ l. Done (Load l)) (λ part l. IfOk l.outcome IsToken) (λ part made. GivesSession made)
    (loads_is key settings last (login_rules.path key env)) (λ part l h. h)

section_is : (key : TokenKey) (env : Variables) (settings : CallSettings) (kept : Option LoginToken) (last : Option Moment) → IfSome kept IsToken → Gives (Sections.section login_rules key env settings kept last) (λ part made. GivesSession made)
unfolding Sections.section Sections.by_reading clock
section_is key env settings None last h = λ a. loaded_is key env settings last
section_is key env settings (Some token) last h = λ a. either_way (outlasts_buffer login_rules token (moment_of a))
  where
    either_way : (fresh : Bool) → Gives (cond fresh (Done (Hit token)) (after (Sections.load login_rules key env settings last) (λ l. Done (Load l)))) (λ part made. GivesSession made)
    either_way true = h
    either_way false = loaded_is key env settings last

-- ---- the credentials

answer_is : (by : AskedBy) (given : GivenBy LoginToken) → IfOk given IsToken → IfOk (credentials_in by given) (IsOfSession (feature_of by ∷ []))
unfolding credentials_in
answer_is by (Ok token) h = record { name = h.name; session_token = h.session_token; expiry = h.expiry; account = h.account; features = ap (λ fs. fs ++ feature_of by ∷ []) h.features }
answer_is by (Err e) h = tt

pub credentials_of_session : (conf : Configuration) (session : List ℕ) (by : AskedBy) (found : List Value) (part : List Pair) (out : Answer) → FindsSession found → SignInCause conf session by found part out → IfOk out (IsOfSession (feature_of by ∷ []))
credentials_of_session conf session by found part out finds c =
    let s = c.of_section in
    let was = login_in s.value in
    let kept : IfSome was.token IsToken = subst FindsSession s.finds finds in
    let given = gives_reads (Sections.section login_rules (Login session) conf.environment (settings_of conf) was.token was.last) (λ part made. GivesSession made) part s.made
    (section_is (Login session) conf.environment (settings_of conf) was.token was.last kept) s.reads in
    subst (λ (o : Answer). IfOk o (IsOfSession (feature_of by ∷ []))) (sym c.tells) (answer_is by c.given (subst (λ (g : GivenBy LoginToken). IfOk g IsToken) (sym s.gives) given))
