-- What a call that has only begun has sent for the credentials of a role.
use Rattle.std.proofs.Common.{◌≡◌, ℕ, List, [], ◌∷◌, ◌++◌, Option, Some, None, Result, Ok, Err, refl, sym, ap, ◌∙◌, subst, append-nil, inl, inr}
use Rattle.std.specs.Prelude.{◌⊎◌, codes}
use Rattle.cfg_types.specs.Environment.{variable}
use Rattle.cfg_types.specs.declared.errors.sso.CachedSsoTokenError.{CachedSsoTokenError}
use Rattle.cfg_world.specs.Fits.{Pair}
use Rattle.cfg_world.specs.Leaves.{clock, contents_of, reading_file, getting_role_credentials}
use Rattle.cfg_profile.specs.Configuration.{Configuration}
use Rattle.cfg_profile.specs.Settings.{settings_of}
use Rattle.cfg_token.specs.declared.token_key.TokenKey.{TokenKey}
use Rattle.cfg_token.specs.SsoTokens.{sso_rules}
use Rattle.cfg_kept.specs.Kinds.{Value, States}
use Rattle.cfg_kept.specs.KeptInquiry.{Gives, Runs, Begins, lift}
use Rattle.cfg_kept.specs.SsoHoldings.{sso_spot}
use Rattle.cfg_kept.proofs.Beginnings.{begins_splits}
use Rattle.cfg_kept.proofs.CallParts.{read_of_run}
use Rattle.cfg_sso.specs.declared.config.SsoProviderConfig.{SsoProviderConfig}
use Rattle.cfg_sso.specs.RoleKeys.{exchange}
use Rattle.cfg_sso.specs.Tokens.{Token, section_of, of_section, session_token, url_path, token_in, of_file, file_token, by_clock, at_path, url_token, sso_key, token_by, sso_token}
use Rattle.cfg_sso.specs.SsoCredentials.{behind_token, sso_credentials}
use Rattle.cfg_sso.specs.RoleRequests.{AsksNoRole, SendsOnce}
use Rattle.cfg_sso.proofs.NoRoleAsked.{NeverAsks, begins_without, runs_without, onwards_without}
use Rattle.cfg_sso.proofs.SectionHoldings.{holding_asks_none}
use Rattle.cfg_sso.proofs.SsoCauses.{token_part}
use Rattle.cfg_sso.proofs.RoleRequests.{token_lasts}

-- ---- the token

section_without : (conf : Configuration) (key : TokenKey) → NeverAsks (section_of conf key)
section_without conf key = holding_asks_none sso_rules (λ k t f. refl) sso_spot key conf.environment (settings_of conf)

by_clock_without : (held : Token) → NeverAsks (lift (by_clock held))
unfolding by_clock clock
by_clock_without (Err e) = tt
by_clock_without (Ok t) = (refl, λ a. tt)

path_without : (path : Result (List ℕ) CachedSsoTokenError) → NeverAsks (lift (at_path path))
unfolding file_token reading_file
path_without (Err e) = tt
path_without (Ok path) = (refl, λ a. by_clock_without (of_file (token_in path (contents_of a))))

by_key_without : (conf : Configuration) (url : List ℕ) (key : Option TokenKey) → NeverAsks (token_by conf url key)
unfolding session_token url_token
by_key_without conf url None = path_without (url_path url (variable conf.environment (codes "HOME")))
by_key_without conf url (Some key) = onwards_without (section_of conf key) (λ given. Gives (of_section given)) (section_without conf key) (λ given. tt)

token_without : (conf : Configuration) (sso : SsoProviderConfig) → NeverAsks (sso_token conf sso)
unfolding sso_token
token_without conf sso = by_key_without conf sso.start_url (sso_key sso)

-- ---- the request behind it

behind : (conf : Configuration) (sso : SsoProviderConfig) (token : Token) (old middle new : Option States) (found before then : List Value) (part one rest : List Pair) →
    found ≡ before ++ then → part ≡ one ++ rest → Runs (sso_token conf sso) old before one token middle → Begins (lift (behind_token conf sso token)) middle then rest new →
    SendsOnce conf sso found part ⊎ AsksNoRole part
unfolding sso_token behind_token exchange getting_role_credentials
behind conf sso token old middle new found before then part one [] finds parts runs h =
    inr (subst AsksNoRole (sym (parts ∙ append-nil one)) (runs_without (sso_token conf sso) old middle before one token (token_without conf sso) runs))
behind conf sso (Err e) old middle new found before [] part one (x ∷ rest) finds parts runs h = absurd h
behind conf sso (Err e) old middle new found before (f ∷ then) part one (x ∷ rest) finds parts runs h = absurd h
behind conf sso (Ok token) old middle new found before (f ∷ then) part one (x ∷ []) finds parts runs h = absurd h.1
behind conf sso (Ok token) old middle new found before [] part one (x ∷ y ∷ rest) finds parts runs h = absurd h.1
behind conf sso (Ok token) old middle new found before (f ∷ then) part one (x ∷ y ∷ rest) finds parts runs h = absurd h.1
behind conf sso (Ok token) old middle new found before [] part one (x ∷ []) finds parts runs h =
    let of_token = token_part conf sso.start_url (sso_key sso) found one (Ok token)
    (subst (λ f. Runs (sso_token conf sso) None f one (Ok token) None) (sym (finds ∙ append-nil before)) (read_of_run (sso_token conf sso) old middle before one (Ok token) runs)) in
    inl (record {
      token_part = one;
      token = token;
      given = x.1;
      parts = parts ∙ ap (λ q. one ++ (q, x.1) ∷ []) h.0;
      of_token = of_token;
      alone = runs_without (sso_token conf sso) old middle before one (Ok token) (token_without conf sso) runs;
      unexpired = token_lasts conf sso.start_url (sso_key sso) found one token of_token;
    })

pub begun_sends : (conf : Configuration) (sso : SsoProviderConfig) (old new : Option States) (found : List Value) (part : List Pair) → Begins (sso_credentials conf sso) old found part new →
    SendsOnce conf sso found part ⊎ AsksNoRole part
unfolding sso_credentials
begun_sends conf sso old new found part h = elim (begins_splits (sso_token conf sso) (λ given. lift (behind_token conf sso given)) old new found part h) [
  | inl b ↦ inr (begins_without (sso_token conf sso) old new found part (token_without conf sso) b)
  | inr r ↦ behind conf sso r.outcome old r.middle new found r.found_before r.found_behind part r.part r.rest r.finds r.parts r.runs r.begins
]
