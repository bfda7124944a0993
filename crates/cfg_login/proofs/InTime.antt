-- Where nothing stands in the way, there are credentials.
use Rattle.std.proofs.Common.{◌≡◌, ℕ, Bool, true, false, cond, List, [], ◌∷◌, Option, Some, None, Result, Ok, Err, refl, sym, subst, append-nil, inl, inr, arith}
use Rattle.std.specs.Prelude.{◌≢◌, ◌⊎◌, ◌||◌, ℤ, pos, ◌+ℤ◌, int_lt, codes, is_ok, IsSome, IsOk, option_map}
use Rattle.std.specs.Str.{encode_utf8_all}
use Rattle.std.proofs.lemmas.Int.{ints}
use Rattle.cfg_base.specs.Moment.{Moment}
use Rattle.cfg_types.specs.Environment.{Variables, variable}
use Rattle.cfg_types.specs.declared.environment.VarError.{VarError}
use Rattle.cfg_types.specs.declared.errors.login.LoginTokenError.{LoginTokenError}
use Rattle.cfg_types.specs.declared.reply.Reply.{Reply}
use Rattle.cfg_types.specs.declared.reply.Reply.TheVariants as reply
use Rattle.cfg_types.specs.declared.reply.sign_in.SignInToken.{SignInToken}
use Rattle.cfg_types.specs.declared.settings.CallSettings.{CallSettings}
use Rattle.cfg_world.specs.declared.ask.Answer.{Answer as Given}
use Rattle.cfg_world.specs.declared.ask.Answer.TheVariants as answer
use Rattle.cfg_world.specs.declared.ask.Question.TheVariants as question
use Rattle.cfg_world.specs.Fits.{Pair}
use Rattle.cfg_world.specs.Inquiry.{Done, Reads, after}
use Rattle.cfg_world.specs.Leaves.{clock, moment_of}
use Rattle.cfg_profile.specs.Configuration.{Configuration}
use Rattle.cfg_profile.specs.Settings.{settings_of}
use Rattle.cfg_token.specs.declared.decision.Decision.{Decision}
use Rattle.cfg_token.specs.declared.decision.Decision.TheVariants.{Use, Refresh, Refuse}
use Rattle.cfg_token.specs.declared.sections.Sectioned.{Sectioned}
use Rattle.cfg_token.specs.declared.sections.Sectioned.TheVariants.{Hit, Load}
use Rattle.cfg_token.specs.declared.loading.Loaded.{Loaded}
use Rattle.cfg_token.specs.declared.token_key.TokenKey.{TokenKey}
use Rattle.cfg_token.specs.declared.token_key.TokenKey.TheVariants.{Login}
use Rattle.cfg_token.specs.Decisions.{decision, outlasts_buffer}
use Rattle.cfg_token.specs.Sections
use Rattle.cfg_token.specs.Sections.{ok_of}
use Rattle.cfg_token.specs.SsoTokens.{end_of}
use Rattle.cfg_token.specs.Readings.{IsHit}
use Rattle.cfg_token.proofs.Outcomes.{Gives, gives_reads, gives_after, gives_more}
use Rattle.cfg_token.proofs.Readings.{section_hits}
use Rattle.cfg_login_token.specs.declared.login_token.LoginToken.{LoginToken}
use Rattle.cfg_login_token.specs.LoginFile.{login_file}
use Rattle.cfg_login_token.specs.LoginText.{login_text}
use Rattle.cfg_login_token.specs.LoginTokens.{Given as GivenBy, by_token, cache_path, login_renewal, login_rules, renewed_to}
use Rattle.cfg_login_token.specs.Paths.{cache_directory}
use Rattle.cfg_kept.specs.Kinds.{Value, login_in}
use Rattle.cfg_kept.specs.LoginHoldings.{login_spot}
use Rattle.cfg_kept.specs.SectionParts.{found_at}
use Rattle.cfg_login.specs.declared.asked_by.AskedBy.{AskedBy}
use Rattle.cfg_login.specs.SignIns.{Answer, credentials_in}
use Rattle.cfg_login.specs.SignInCauses.{SignInCause}
use Rattle.cfg_login.specs.InNoWay.{HasFolder, held_token, Lasts, GivesToken, IsGranted, IsRefreshed, IsInTime, IsSectionInTime, NothingInTheWay}

abbrev Made : Type 0
Made = Sectioned LoginToken LoginTokenError

abbrev Outcome : Type 0
Outcome = Loaded LoginToken LoginTokenError

never : false ≡ true → ⊥
never h = cc

-- ---- a refresh

-- the load gave a token, where this holds
abbrev IfFine : Type 0 → Outcome → Type 0
IfFine P l = P → IsOk l.outcome

-- a new token is handed out, whether it was written or not
written_fine : (path : List ℕ) (now : Moment) (token : LoginToken) (a : Given) → IsOk (Sections.written login_rules path now token a).outcome
written_fine path now token answer.Written = refl
written_fine path now token (answer.Moment m) = refl
written_fine path now token (answer.Jitter n) = refl
written_fine path now token (answer.Contents bytes) = refl
written_fine path now token (answer.Finished finished) = refl
written_fine path now token (answer.Addresses addresses) = refl
written_fine path now token (answer.Replied reply) = refl
written_fine path now token (answer.Failed kind) = refl

text_fine : (path : List ℕ) (now : Moment) (token : LoginToken) (text : Option (List ℕ)) → Gives (Sections.saves_text login_rules path now token (option_map encode_utf8_all text)) (λ part l. IsOk l.outcome)
text_fine path now token None = refl
text_fine path now token (Some text) = λ a. written_fine path now token a

saves_fine : (path : List ℕ) (now : Moment) (token : LoginToken) → Gives (Sections.saves login_rules path now token) (λ part l. IsOk l.outcome)
unfolding Sections.saves
saves_fine path now token = text_fine path now token (login_text token)

-- a lifetime that lasts has an end
has_end : (now : Moment) (lifetime : ℤ) → Lasts now lifetime → end_of now lifetime ≡ None → ⊥
has_end now lifetime h is = by (int_lt lifetime (pos 1)) (int_lt (pos 9223372036854775807) (now.seconds +ℤ lifetime)) refl refl is
  where
    by : (a b : Bool) → int_lt lifetime (pos 1) ≡ a → int_lt (pos 9223372036854775807) (now.seconds +ℤ lifetime) ≡ b →
        cond (a || b) None (let end : Moment = record { seconds = now.seconds +ℤ lifetime; nanos = now.nanos } in Some end) ≡ None → ⊥
    by true b e f k = let some = h.some in absurd (omega (arith, ints, e, some))
    by false true e f k = let end = h.end in absurd (omega (arith, ints, f, end))
    by false false e f k = absurd cc

ended_fine : (path : List ℕ) (file : LoginToken) (now : Moment) (given : SignInToken) (end : Option Moment) → end_of now given.expires_in ≡ end →
    Gives (Sections.renews login_rules path file now (renewed_to file given end)) (λ part l. IfFine (Lasts now given.expires_in) l)
ended_fine path file now given None is = λ h. absurd (has_end now given.expires_in h is)
ended_fine path file now given (Some end) is =
    let r = renewed_to file given (Some end) in
    gives_more (Sections.renews login_rules path file now r) (λ part l. IsOk l.outcome) (λ part l. IfFine (Lasts now given.expires_in) l) (λ part l f h. f) (saves_fine path now _)

token_fine : (path : List ℕ) (file : LoginToken) (now : Moment) (given : Option SignInToken) → Gives (Sections.renews login_rules path file now (by_token file now given)) (λ part l. IfFine (GivesToken now given) l)
token_fine path file now None = λ h. absurd h
token_fine path file now (Some given) = ended_fine path file now given (end_of now given.expires_in) refl

reply_fine : (path : List ℕ) (file : LoginToken) (now : Moment) (r : Reply) → Gives (Sections.renews login_rules path file now (login_renewal file now (answer.Replied r))) (λ part l. IfFine (IsGranted now (answer.Replied r)) l)
reply_fine path file now (reply.SignIn given) = token_fine path file now given.token
reply_fine path file now (reply.Refused refusal) = λ h. absurd h
reply_fine path file now (reply.Http given) = λ h. absurd h
reply_fine path file now (reply.Sts given) = λ h. absurd h
reply_fine path file now (reply.Role given) = λ h. absurd h
reply_fine path file now (reply.Token given) = λ h. absurd h

renews_fine : (path : List ℕ) (file : LoginToken) (now : Moment) (a : Given) → Gives (Sections.renews login_rules path file now (login_renewal file now a)) (λ part l. IfFine (IsGranted now a) l)
renews_fine path file now (answer.Replied r) = reply_fine path file now r
renews_fine path file now (answer.Moment m) = λ h. absurd h
renews_fine path file now (answer.Jitter n) = λ h. absurd h
renews_fine path file now (answer.Contents bytes) = λ h. absurd h
renews_fine path file now answer.Written = λ h. absurd h
renews_fine path file now (answer.Finished finished) = λ h. absurd h
renews_fine path file now (answer.Addresses addresses) = λ h. absurd h
renews_fine path file now (answer.Failed kind) = λ h. absurd h

decides_fine : (key : TokenKey) (settings : CallSettings) (path : List ℕ) (file : LoginToken) (now : Moment) (d : Decision) →
    Gives (Sections.decides login_rules key settings path file now d) (λ part l. IfFine ((d ≢ Refuse) × IsRefreshed now part) l)
unfolding Sections.refreshes Sections.asks_renewal
decides_fine key settings path file now Refuse = λ h. absurd (h.0 refl)
decides_fine key settings path file now Use = λ h. refl
decides_fine key settings path file now Refresh = λ a.
    let r = login_renewal file now a in
    gives_more (Sections.renews login_rules path file now r) (λ part l. IfFine (IsGranted now a) l)
    (λ part l. IfFine ((Refresh ≢ Refuse) × IsRefreshed now ((question.Send (login_rules.request key settings file), a) ∷ part)) l) (λ part l f h. f h.1) (renews_fine path file now a)

-- ---- the file, and the reading behind it

module _ (key : TokenKey) (settings : CallSettings) (last : Option Moment) (path : List ℕ) (first : Pair) where
  -- what stands behind a file
  abbrev Behind : Option LoginToken → List Pair → Type 0
  Behind held [] = IsSome held
  Behind held (second ∷ rest) = IsInTime last (moment_of second.1) rest held

  by_file : (file : GivenBy LoginToken) → Gives (Sections.judges_file login_rules key settings last path file) (λ part l. IfFine (Behind (ok_of file) part) l)
  unfolding Sections.judges clock
  by_file (Err e) = λ h. absurd (never h)
  by_file (Ok file) = λ a. decides_fine key settings path file (moment_of a) (decision login_rules file last (moment_of a))

  unread : Gives (Sections.judges_file login_rules key settings last path (Err (login_rules.unread path))) (λ part l. IfFine (Behind None part) l)
  unread = λ h. absurd (never h)

  by_answer : (b : Given) → Gives (Sections.judges_file login_rules key settings last path (Sections.read_as login_rules path b)) (λ part l. IfFine (Behind (held_token b) part) l)
  by_answer (answer.Contents bytes) = by_file (login_file bytes)
  by_answer (answer.Moment m) = unread
  by_answer (answer.Jitter n) = unread
  by_answer answer.Written = unread
  by_answer (answer.Finished finished) = unread
  by_answer (answer.Addresses addresses) = unread
  by_answer (answer.Replied reply) = unread
  by_answer (answer.Failed kind) = unread

  behind_in_time : (b : Given) (part : List Pair) → IsSectionInTime last (first ∷ (question.Read path, b) ∷ part) → Behind (held_token b) part
  behind_in_time b [] h = h
  behind_in_time b (second ∷ rest) h = h

  read_fine : (b : Given) → Gives (Sections.judges_file login_rules key settings last path (Sections.read_as login_rules path b)) (λ part l. IfFine (IsSectionInTime last (first ∷ (question.Read path, b) ∷ part)) l)
  read_fine b =
      gives_more (Sections.judges_file login_rules key settings last path (Sections.read_as login_rules path b)) (λ part l. IfFine (Behind (held_token b) part) l)
      (λ part l. IfFine (IsSectionInTime last (first ∷ (question.Read path, b) ∷ part)) l) (λ part l f h. f (behind_in_time b part h)) (by_answer b)

-- ---- a section

loads_fine : (key : TokenKey) (settings : CallSettings) (last : Option Moment) (first : Pair) (path : GivenBy (List ℕ)) → IsOk path →
    Gives (Sections.loads_from login_rules key settings last path) (λ part l. IfFine (IsSectionInTime last (first ∷ part)) l)
unfolding Sections.file
loads_fine key settings last first (Err e) h = absurd (never h)
loads_fine key settings last first (Ok path) h = λ b. read_fine key settings last path first b

-- the section gave a token, where its part is in time
abbrev IsFine : Option Moment → List Pair → Made → Type 0
IsFine last part made = IsSectionInTime last part → IsOk (Sections.answer_of made)

loaded_fine : (key : TokenKey) (env : Variables) (settings : CallSettings) (last : Option Moment) (a : Given) → IsOk (login_rules.path key env) →
    Gives (after (Sections.load login_rules key env settings last) (λ l. Done (Load l))) (λ part made. IsFine last ((question.Now, a) ∷ part) made)
unfolding Sections.load
loaded_fine key env settings last a folder =
    gives_after (Sections.loads_from login_rules key settings last (login_rules.path key env)) (λ l. Done (Load l)) (λ part l. IfFine (IsSectionInTime last ((question.Now, a) ∷ part)) l)
    (λ part made. IsFine last ((question.Now, a) ∷ part) made) (loads_fine key settings last (question.Now, a) (login_rules.path key env) folder)
    (λ part l h. subst (λ (J : List Pair). IsFine last ((question.Now, a) ∷ J) (Load l)) (sym (append-nil part)) h)

section_fine : (key : TokenKey) (env : Variables) (settings : CallSettings) (kept : Option LoginToken) (last : Option Moment) → IsOk (login_rules.path key env) →
    Gives (Sections.section login_rules key env settings kept last) (IsFine last)
unfolding Sections.section Sections.by_reading clock
section_fine key env settings None last folder = λ a. loaded_fine key env settings last a folder
section_fine key env settings (Some token) last folder = λ a. either_way a (outlasts_buffer login_rules token (moment_of a))
  where
    either_way : (a : Given) (fresh : Bool) → Gives (cond fresh (Done (Hit token)) (after (Sections.load login_rules key env settings last) (λ l. Done (Load l)))) (λ part made. IsFine last ((question.Now, a) ∷ part) made)
    either_way a true = λ h. refl
    either_way a false = loaded_fine key env settings last a folder

made_fine : (key : TokenKey) (env : Variables) (settings : CallSettings) (kept : Option LoginToken) (last : Option Moment) (part : List Pair) (made : Made) → IsHit login_rules kept part ⊎ IsOk (login_rules.path key env) →
    IsSectionInTime last part → Reads (Sections.section login_rules key env settings kept last) part made → IsOk (Sections.answer_of made)
made_fine key env settings kept last part made (inl hit) t reads = section_hits login_rules key env settings kept last part made reads hit
made_fine key env settings kept last part made (inr path) t reads = gives_reads (Sections.section login_rules key env settings kept last) (IsFine last) part made (section_fine key env settings kept last path) reads t

-- ---- the whole

folder_fine : (session : List ℕ) (cache home : Result (List ℕ) VarError) → IsOk cache ⊎ IsOk home → IsOk (cache_path session (cache_directory cache home))
folder_fine session (Ok cache) home h = refl
folder_fine session (Err e) (Ok home) h = refl
folder_fine session (Err e) (Err f) (inl h) = absurd (never h)
folder_fine session (Err e) (Err f) (inr h) = absurd (never h)

path_fine : (session : List ℕ) (cache home : Result (List ℕ) VarError) (kept : Option LoginToken) (part : List Pair) → IsHit login_rules kept part ⊎ (IsOk cache ⊎ IsOk home) →
    IsHit login_rules kept part ⊎ IsOk (cache_path session (cache_directory cache home))
path_fine session cache home kept part (inl hit) = inl hit
path_fine session cache home kept part (inr known) = inr (folder_fine session cache home known)

answer_fine : (by : AskedBy) (given : GivenBy LoginToken) → IsOk given → is_ok (credentials_in by given) ≡ true
unfolding credentials_in
answer_fine by (Ok token) h = refl
answer_fine by (Err e) h = absurd (never h)

pub nothing_in_the_way : (conf : Configuration) (session : List ℕ) (by : AskedBy) (found : List Value) (part : List Pair) (out : Answer) → SignInCause conf session by found part out →
    NothingInTheWay conf found part → is_ok out ≡ true
nothing_in_the_way conf session by found part out c n =
    let s = c.of_section in
    let key = Login session in
    let was = login_in s.value in
    let known = subst (λ (f : List Value). IsHit login_rules (found_at login_spot f).token part ⊎ HasFolder conf.environment) s.finds n.folder in
    let folder = path_fine session (variable conf.environment (codes "AWS_LOGIN_CACHE_DIRECTORY")) (variable conf.environment (codes "HOME")) was.token part known in
    let in_time : IsSectionInTime was.last part = subst (λ (f : List Value). IsSectionInTime (found_at login_spot f).last part) s.finds n.section in
    subst (λ (o : Answer). is_ok o ≡ true) (sym c.tells) (answer_fine by c.given (subst (λ (g : GivenBy LoginToken). IsOk g) (sym s.gives) (made_fine key conf.environment (settings_of conf) was.token was.last part s.made folder in_time s.reads)))
