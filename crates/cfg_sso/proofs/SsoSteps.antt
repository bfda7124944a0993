-- How the calls of a provider of IAM Identity Center are put together.
use Rattle.std.proofs.Common.{◌≡◌, List, Option, Some, None, IfSome, Result, Ok, Err, sym, ◌∙◌, ap, subst}
use Rattle.std.specs.Prelude.{ℕ, true, is_some}
use Rattle.cfg_world.specs.declared.asking.Asking.{Ghosts}
use Rattle.cfg_world.specs.declared.asking.Stop.{Stop}
use Rattle.cfg_world.specs.declared.asking.Stop.TheVariants.{OutOfMemory, Open}
use Rattle.cfg_world.specs.Inquiry.{Inquiry}
use Rattle.cfg_world.specs.Follows.{Follows}
use Rattle.cfg_profile.specs.Configuration.{Configuration}
use Rattle.cfg_token.specs.declared.sso_token.CachedSsoToken.{CachedSsoToken}
use Rattle.cfg_token.specs.declared.token_key.TokenKey.{TokenKey}
use Rattle.cfg_token.specs.declared.token_key.TokenKey.TheVariants.{Sso}
use Rattle.cfg_token.specs.SsoTokens.{Given}
use Rattle.cfg_kept.specs.KeptInquiry.{Gives, lift}
use Rattle.cfg_kept.specs.KeyedStates.{is_sso_key}
use Rattle.cfg_kept.specs.Holds.{Holdings, HoldsEnds, HoldsBreaks, HoldsHalts, HoldsFollows}
use Rattle.cfg_kept.proofs.HoldingSteps.{holds_ends_then, holds_waits_then, holds_breaks_then, holds_waits_first, holds_breaks_first, holds_ends, holds_waits, holds_breaks, holds_said, holds_breaks_here}
use Rattle.cfg_sso.specs.declared.config.SsoProviderConfig.{SsoProviderConfig}
use Rattle.cfg_sso.specs.RoleKeys.{Answer}
use Rattle.cfg_sso.specs.Tokens.{Token, section_of, of_section, session_token, url_token, key_by, sso_key, HasKey, token_by, sso_token}
use Rattle.cfg_sso.specs.SsoCredentials.{behind_token, sso_credentials}
use Rattle.cfg_sso.specs.BearerTokens.{Bearer, bearer, bearer_token}

-- ---- the key

named_key : (sso : SsoProviderConfig) (session : List ℕ) → sso.session_name ≡ Some session → sso_key sso ≡ Some (Sso session sso.region sso.start_url)
named_key sso session is = ap (λ name. key_by name sso.region sso.start_url) is

held_key : (sso : SsoProviderConfig) (session : List ℕ) (held : Option TokenKey) → sso.session_name ≡ Some session → HasKey (sso_key sso) held → held ≡ Some (Sso session sso.region sso.start_url)
held_key sso session held is has = let named = named_key sso session is in has (ap is_some named) ∙ named

-- a provider of a session has a key of its kind
pub session_has_key : (sso : SsoProviderConfig) (session : List ℕ) (held : Option TokenKey) → sso.session_name ≡ Some session → HasKey (sso_key sso) held → is_sso_key held ≡ true
session_has_key sso session held is has = ap is_sso_key (held_key sso session held is has)

module _ {W : Type 0} (w : Ghosts W) where
  -- ---- a section

  -- memory ran out before anything was found
  pub nothing_found : (conf : Configuration) (key : Option TokenKey) (old : W) (before : Holdings) → IfSome key (λ k. HoldsBreaks w (section_of conf k) old before old before)
  nothing_found conf None old before = tt
  nothing_found conf (Some k) old before = holds_breaks_here

  -- what a section gives is told
  pub session_ends : (conf : Configuration) (key : Option TokenKey) (old new : W) (before later : Holdings) (given : Given CachedSsoToken) (token : Token) → of_section given ≡ token →
      IfSome key (λ k. HoldsEnds w (section_of conf k) old before new later given) → IfSome key (λ k. HoldsEnds w (session_token conf k) old before new later token)
  unfolding session_token
  session_ends conf None old new before later given token is h = tt
  session_ends conf (Some k) old new before later given token is h = holds_ends_then (λ g. Gives (of_section g)) h (holds_said is)

  pub session_halts : (conf : Configuration) (key : Option TokenKey) (old new : W) (before later : Holdings) (stop : Stop) →
      IfSome key (λ k. HoldsHalts w (section_of conf k) old before new later stop) → IfSome key (λ k. HoldsHalts w (session_token conf k) old before new later stop)
  unfolding session_token
  session_halts conf None old new before later stop h = tt
  session_halts conf (Some k) old new before later Open h = holds_waits_first (λ g. Gives (of_section g)) h
  session_halts conf (Some k) old new before later OutOfMemory h = holds_breaks_first (λ g. Gives (of_section g)) h

  -- ---- the token

  pub of_session : (conf : Configuration) (sso : SsoProviderConfig) (session : List ℕ) (held : Option TokenKey) (old new : W) (before later : Holdings) (result : Result Token Stop) →
      sso.session_name ≡ Some session → HasKey (sso_key sso) held → IfSome held (λ key. HoldsFollows w (session_token conf key) old before new later result) →
      HoldsFollows w (sso_token conf sso) old before new later result
  unfolding sso_token
  of_session conf sso session held old new before later result is has h =
      subst (λ key. HoldsFollows w (token_by conf sso.start_url key) old before new later result) (sym (named_key sso session is))
      (subst (λ key. IfSome key (λ k. HoldsFollows w (session_token conf k) old before new later result)) (held_key sso session held is has) h)

  lifted_follows : {R : Type 0} (p : Inquiry R) (old new : W) (before : Holdings) (result : Result R Stop) → Follows w p old new result → HoldsFollows w (lift p) old before new before result
  lifted_follows p old new before (Ok out) h = holds_ends h
  lifted_follows p old new before (Err Open) h = holds_waits h
  lifted_follows p old new before (Err OutOfMemory) h = holds_breaks h

  pub of_url : (conf : Configuration) (sso : SsoProviderConfig) (old new : W) (before : Holdings) (result : Result Token Stop) →
      sso.session_name ≡ None → Follows w (url_token conf.environment sso.start_url) old new result → HoldsFollows w (sso_token conf sso) old before new before result
  unfolding sso_token
  of_url conf sso old new before result is h =
      subst (λ key. HoldsFollows w (token_by conf sso.start_url key) old before new before result) (sym (ap (λ name. key_by name sso.region sso.start_url) is))
      (lifted_follows (url_token conf.environment sso.start_url) old new before result h)

  -- ---- the token, and then the request

  pub sso_goes_on : (conf : Configuration) (sso : SsoProviderConfig) (old mid new : W) (before between : Holdings) (token : Token) (result : Result Answer Stop) →
      HoldsEnds w (sso_token conf sso) old before mid between token → Follows w (behind_token conf sso token) mid new result → HoldsFollows w (sso_credentials conf sso) old before new between result
  unfolding sso_credentials
  sso_goes_on conf sso old mid new before between token (Ok out) a b = holds_ends_then (λ t. lift (behind_token conf sso t)) a (holds_ends b)
  sso_goes_on conf sso old mid new before between token (Err Open) a b = holds_waits_then (λ t. lift (behind_token conf sso t)) a (holds_waits b)
  sso_goes_on conf sso old mid new before between token (Err OutOfMemory) a b = holds_breaks_then (λ t. lift (behind_token conf sso t)) a (holds_breaks b)

  pub sso_halts : (conf : Configuration) (sso : SsoProviderConfig) (old new : W) (before later : Holdings) (stop : Stop) →
      HoldsHalts w (sso_token conf sso) old before new later stop → HoldsHalts w (sso_credentials conf sso) old before new later stop
  unfolding sso_credentials
  sso_halts conf sso old new before later Open h = holds_waits_first (λ t. lift (behind_token conf sso t)) h
  sso_halts conf sso old new before later OutOfMemory h = holds_breaks_first (λ t. lift (behind_token conf sso t)) h

  -- ---- a bearer token

  pub bearer_ends : (conf : Configuration) (held : Option TokenKey) (key : TokenKey) (old new : W) (before later : Holdings) (given : Given CachedSsoToken) (out : Bearer) → held ≡ Some key → bearer given ≡ out →
      IfSome held (λ k. HoldsEnds w (section_of conf k) old before new later given) → HoldsEnds w (bearer_token conf key) old before new later out
  unfolding bearer_token
  bearer_ends conf held key old new before later given out has is h =
      holds_ends_then (λ g. Gives (bearer g)) (subst (λ o. IfSome o (λ k. HoldsEnds w (section_of conf k) old before new later given)) has h) (holds_said is)

  -- memory ran out behind the section
  pub bearer_breaks : (conf : Configuration) (held : Option TokenKey) (key : TokenKey) (old new : W) (before later : Holdings) (given : Given CachedSsoToken) (result : Result Bearer Stop) → held ≡ Some key → result ≡ Err OutOfMemory →
      IfSome held (λ k. HoldsEnds w (section_of conf k) old before new later given) → HoldsFollows w (bearer_token conf key) old before new later result
  unfolding bearer_token
  bearer_breaks conf held key old new before later given result has is h =
      subst (λ r. HoldsFollows w (bearer_token conf key) old before new later r) (sym is)
      (holds_breaks_then (λ g. Gives (bearer g)) (subst (λ o. IfSome o (λ k. HoldsEnds w (section_of conf k) old before new later given)) has h) holds_breaks_here)

  pub bearer_halts : (conf : Configuration) (held : Option TokenKey) (key : TokenKey) (old new : W) (before later : Holdings) (stop : Stop) → held ≡ Some key →
      IfSome held (λ k. HoldsHalts w (section_of conf k) old before new later stop) → HoldsHalts w (bearer_token conf key) old before new later stop
  unfolding bearer_token
  bearer_halts conf held key old new before later Open has h = holds_waits_first (λ g. Gives (bearer g)) (subst (λ o. IfSome o (λ k. HoldsHalts w (section_of conf k) old before new later Open)) has h)
  bearer_halts conf held key old new before later OutOfMemory has h =
      holds_breaks_first (λ g. Gives (bearer g)) (subst (λ o. IfSome o (λ k. HoldsHalts w (section_of conf k) old before new later OutOfMemory)) has h)
