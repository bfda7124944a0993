-- No section of a token, and none of the credentials behind one, asks for a role.
use Rattle.std.proofs.Common.{◌≡◌, ℕ, List, Bool, true, false, cond, Option, Some, None, Result, Ok, Err, refl}
use Rattle.std.specs.Prelude.{codes}
use Rattle.cfg_base.specs.Moment.{Moment}
use Rattle.cfg_types.specs.Environment.{Variables, variable}
use Rattle.cfg_types.specs.declared.errors.sso.CachedSsoTokenError.{CachedSsoTokenError}
use Rattle.cfg_types.specs.declared.settings.CallSettings.{CallSettings}
use Rattle.cfg_world.specs.declared.ask.Question.TheVariants.{Send}
use Rattle.cfg_world.specs.Inquiry.{Inquiry, Done, after}
use Rattle.cfg_world.specs.Leaves.{clock, moment_of, contents_of, reading_file, getting_role_credentials}
use Rattle.cfg_kept.specs.KeptInquiry.{Gives, lift}
use Rattle.cfg_kept.specs.LoginHoldings.{login_spot}
use Rattle.cfg_kept.specs.SectionHoldings.{TokenSpot, settled, kept_section, section_holding}
use Rattle.cfg_kept.specs.SsoHoldings.{sso_spot}
use Rattle.cfg_login.specs.declared.asked_by.AskedBy.{AskedBy}
use Rattle.cfg_login.specs.SignIns.{credentials_in, section_of as session_section, sign_in_credentials}
use Rattle.cfg_login_token.specs.LoginTokens.{login_rules}
use Rattle.cfg_profile.specs.Configuration.{Configuration}
use Rattle.cfg_profile.specs.Settings.{settings_of}
use Rattle.cfg_sso.specs.declared.config.SsoProviderConfig.{SsoProviderConfig}
use Rattle.cfg_sso.specs.RoleKeys.{exchange}
use Rattle.cfg_sso.specs.SsoCredentials.{behind_token, sso_credentials}
use Rattle.cfg_sso.specs.Tokens.{Token, section_of, of_section, session_token, url_path, token_in, of_file, file_token, by_clock, at_path, url_token, sso_key, token_by, sso_token}
use Rattle.cfg_token.specs.declared.decision.Decision.{Decision}
use Rattle.cfg_token.specs.declared.decision.Decision.TheVariants.{Use, Refresh, Refuse}
use Rattle.cfg_token.specs.declared.file_token.Renewal.{Renewal}
use Rattle.cfg_token.specs.declared.file_token.Renewal.TheVariants.{Granted, Passed, Refused}
use Rattle.cfg_token.specs.declared.sections.Sectioned.TheVariants.{Hit, Load}
use Rattle.cfg_token.specs.declared.token_key.TokenKey.{TokenKey}
use Rattle.cfg_token.specs.declared.token_key.TokenKey.TheVariants.{Login}
use Rattle.cfg_token.specs.Decisions.{decision, outlasts_buffer}
use Rattle.cfg_token.specs.Rules.{Rules}
use Rattle.cfg_token.specs.Sections
use Rattle.cfg_token.specs.SsoTokens.{sso_rules}
use Rattle.cfg_run.specs.Roles.{signer_in}
use Rattle.cfg_run.proofs.NeverForRole.{NeverForRole, onwards_without, after_without, holding_without}

-- ---- sections

cond_without : {R : Type 0} (b : Bool) (p q : Inquiry R) → NeverForRole (lift p) → NeverForRole (lift q) → NeverForRole (lift (cond b p q))
cond_without true p q n m = n
cond_without false p q n m = m

module _ {T E : Type 0} (t : Rules T E) (other : (key : TokenKey) (settings : CallSettings) (file : T) → signer_in (Send (t.request key settings file)) ≡ None) where
  text_without : (path : List ℕ) (now : Moment) (token : T) (text : Option (List ℕ)) → NeverForRole (lift (Sections.saves_text t path now token text))
  text_without path now token None = tt
  text_without path now token (Some text) = (refl, λ a. tt)

  renews_without : (path : List ℕ) (file : T) (now : Moment) (r : Renewal T E) → NeverForRole (lift (Sections.renews t path file now r))
  unfolding Sections.saves
  renews_without path file now (Granted token) = text_without path now token (t.text token)
  renews_without path file now Passed = tt
  renews_without path file now (Refused e noted) = tt

  decides_without : (key : TokenKey) (settings : CallSettings) (path : List ℕ) (file : T) (now : Moment) (d : Decision) → NeverForRole (lift (Sections.decides t key settings path file now d))
  unfolding Sections.refreshes Sections.asks_renewal
  decides_without key settings path file now Refuse = tt
  decides_without key settings path file now Use = tt
  decides_without key settings path file now Refresh = (other key settings file, λ a. renews_without path file now (t.renewal key file now a))

  judges_without : (key : TokenKey) (settings : CallSettings) (last : Option Moment) (path : List ℕ) (r : Result T E) → NeverForRole (lift (Sections.judges_file t key settings last path r))
  unfolding Sections.judges clock
  judges_without key settings last path (Err e) = tt
  judges_without key settings last path (Ok file) = (refl, λ a. decides_without key settings path file (moment_of a) (decision t file last (moment_of a)))

  loads_without : (key : TokenKey) (settings : CallSettings) (last : Option Moment) (path : Result (List ℕ) E) → NeverForRole (lift (Sections.loads_from t key settings last path))
  unfolding Sections.file
  loads_without key settings last (Err e) = tt
  loads_without key settings last (Ok path) = (refl, λ a. judges_without key settings last path (Sections.read_as t path a))

  module _ (key : TokenKey) (env : Variables) (settings : CallSettings) where
    load_without : (last : Option Moment) → NeverForRole (lift (after (Sections.load t key env settings last) (λ l. Done (Load l))))
    unfolding Sections.load
    load_without last = after_without (Sections.loads_from t key settings last (t.path key env)) (λ l. Done (Load l)) (loads_without key settings last (t.path key env)) (λ l. tt)

    reading_without : (kept : Option T) (last : Option Moment) (r : Moment) → NeverForRole (lift (Sections.by_reading t key env settings kept last r))
    unfolding Sections.by_reading
    reading_without None last r = load_without last
    reading_without (Some token) last r =
        cond_without (outlasts_buffer t token r) (Done (Hit token)) (after (Sections.load t key env settings last) (λ l. Done (Load l))) tt (load_without last)

    section_without : (kept : Option T) (last : Option Moment) → NeverForRole (lift (Sections.section t key env settings kept last))
    unfolding Sections.section clock
    section_without kept last = (refl, λ a. reading_without kept last (moment_of a))

    kept_without : (s : TokenSpot T) → NeverForRole (section_holding t s key env settings)
    unfolding section_holding
    kept_without s =
        holding_without s.spot s.at (λ found. kept_section t key env settings (s.token_in found)) (λ found.
        let was = s.token_in found in
        after_without (Sections.section t key env settings was.token was.last) (settled was) (section_without was.token was.last) (λ made. tt))

-- ---- IAM Identity Center

section_of_without : (conf : Configuration) (key : TokenKey) → NeverForRole (section_of conf key)
section_of_without conf key = kept_without sso_rules (λ k settings file. refl) key conf.environment (settings_of conf) sso_spot

by_clock_without : (held : Token) → NeverForRole (lift (by_clock held))
unfolding by_clock clock
by_clock_without (Err e) = tt
by_clock_without (Ok token) = (refl, λ a. tt)

path_without : (path : Result (List ℕ) CachedSsoTokenError) → NeverForRole (lift (at_path path))
unfolding file_token reading_file
path_without (Err e) = tt
path_without (Ok path) = (refl, λ a. by_clock_without (of_file (token_in path (contents_of a))))

by_key_without : (conf : Configuration) (url : List ℕ) (key : Option TokenKey) → NeverForRole (token_by conf url key)
unfolding session_token url_token
by_key_without conf url None = path_without (url_path url (variable conf.environment (codes "HOME")))
by_key_without conf url (Some key) = onwards_without (section_of conf key) (λ given. Gives (of_section given)) (section_of_without conf key) (λ given. tt)

behind_without : (conf : Configuration) (sso : SsoProviderConfig) (token : Token) → NeverForRole (lift (behind_token conf sso token))
unfolding behind_token exchange getting_role_credentials
behind_without conf sso (Err e) = tt
behind_without conf sso (Ok token) = (refl, λ a. tt)

pub sso_without : (conf : Configuration) (sso : SsoProviderConfig) → NeverForRole (sso_credentials conf sso)
unfolding sso_credentials sso_token
sso_without conf sso =
    onwards_without (token_by conf sso.start_url (sso_key sso)) (λ given. lift (behind_token conf sso given)) (by_key_without conf sso.start_url (sso_key sso))
    (behind_without conf sso)

-- ---- sign-in sessions

pub sign_in_without : (conf : Configuration) (session : List ℕ) (by : AskedBy) → NeverForRole (sign_in_credentials conf session by)
unfolding sign_in_credentials
sign_in_without conf session by =
    onwards_without (session_section conf session) (λ given. Gives (credentials_in by given))
    (kept_without login_rules (λ k settings file. refl) (Login session) conf.environment (settings_of conf) login_spot) (λ given. tt)
