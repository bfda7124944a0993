-- The state of the token of one key.
use Rattle.std.specs.Prelude.{◌≡◌, Bool, true, false, List, [], map, Option, Some, None, IfSome, option_map, Result}
use Rattle.cfg_types.specs.Environment.{Variables}
use Rattle.cfg_types.specs.declared.settings.CallSettings.{CallSettings}
use Rattle.cfg_types.specs.declared.errors.login.LoginTokenError.{LoginTokenError}
use Rattle.cfg_types.specs.declared.errors.sso.SsoTokenProviderError.{SsoTokenProviderError}
use Rattle.cfg_world.specs.declared.asking.Asking.{Ghosts}
use Rattle.cfg_world.specs.declared.asking.Stop.{Stop}
use Rattle.cfg_token.specs.declared.token_key.TokenKey.{TokenKey}
use Rattle.cfg_token.specs.declared.sso_token.CachedSsoToken.{CachedSsoToken}
use Rattle.cfg_token.specs.declared.state.TokenState.{TokenState}
use Rattle.cfg_token.specs.Rules.{Rules}
use Rattle.cfg_token.specs.Histories.{History, trimmed}
use Rattle.cfg_token.specs.SectionCalls.{Answers}
use Rattle.cfg_token.specs.SsoTokens.{Given as GivenSso, is_sso, sso_rules}
use Rattle.cfg_login_token.specs.declared.login_token.LoginToken.{LoginToken}
use Rattle.cfg_login_token.specs.LoginTokens.{Given as GivenLogin, is_login, login_rules}
use Rattle.cfg_kept.specs.declared.keyed.EitherState.{EitherState}
use Rattle.cfg_kept.specs.declared.keyed.EitherState.TheVariants.{Sso, Login}
use Rattle.cfg_kept.specs.Kinds.{KeptToken, no_token}
use Rattle.cfg_kept.specs.declared.found.Found.{Found}
use Rattle.cfg_kept.specs.FoundValues.{bare}
use Rattle.cfg_kept.specs.Holds.{HoldsOne}
use Rattle.cfg_kept.specs.SectionHoldings.{kept_of}
use Rattle.cfg_kept.specs.SsoHoldings.{sso_at, sso_holding}
use Rattle.cfg_kept.specs.LoginHoldings.{login_at, login_holding}

-- The key is of the state's kind.
abbrev pub OfKind : EitherState → Type 0
OfKind (Sso state) = is_sso state.key ≡ true
OfKind (Login state) = is_login state.key ≡ true

-- whose token it is
abbrev pub key_in : EitherState → TokenKey
key_in (Sso state) = state.key
key_in (Login state) = state.key

-- the key, where there is one
abbrev pub key_of : Option EitherState → Option TokenKey
key_of state = option_map key_in state

-- there is a key, and it is of this kind
abbrev pub is_key_of : {T E : Type 0} → Rules T E → Option TokenKey → Bool
is_key_of t (Some key) = t.is_kind key
is_key_of t None = false

-- there is a key, and it is one of IAM Identity Center
abbrev pub is_sso_key : Option TokenKey → Bool
is_sso_key key = is_key_of sso_rules key

-- there is a key, and it is one of a sign-in session
abbrev pub is_login_key : Option TokenKey → Bool
is_login_key key = is_key_of login_rules key

-- the state, where it is that of a token of IAM Identity Center
abbrev pub sso_state_in : Option EitherState → Option (TokenState CachedSsoToken SsoTokenProviderError)
sso_state_in (Some (Sso state)) = Some state
sso_state_in _ = None

-- the state, where it is that of a token of a sign-in session
abbrev pub login_state_in : Option EitherState → Option (TokenState LoginToken LoginTokenError)
login_state_in (Some (Login state)) = Some state
login_state_in _ = None

-- what a state keeps of its token: nothing, where there is no state
abbrev pub state_kept : {T E : Type 0} → Option (TokenState T E) → KeptToken T
state_kept (Some state) = kept_of state.loads
state_kept None = no_token

-- what is kept of the token of IAM Identity Center
abbrev pub sso_kept : Option EitherState → KeptToken CachedSsoToken
sso_kept state = state_kept (sso_state_in state)

-- what is kept of the token of a sign-in session
abbrev pub login_kept : Option EitherState → KeptToken LoginToken
login_kept state = state_kept (login_state_in state)

-- One holding of the token of the key, where it is of IAM Identity Center, and where it is of a sign-in
-- session.
abbrev pub HoldsSso : {A : Type 0} → Ghosts A → Variables → CallSettings → A → List Found → Option EitherState → A → List Found → Option EitherState → Result (GivenSso CachedSsoToken) Stop → Type 0
HoldsSso a env settings old found before new more later result =
    IfSome (key_of before) (λ key. HoldsOne a (sso_holding key env settings) old new (map bare found) (map bare more) (sso_at (sso_kept before)) (sso_at (sso_kept later)) result)

abbrev pub HoldsLogin : {A : Type 0} → Ghosts A → Variables → CallSettings → A → List Found → Option EitherState → A → List Found → Option EitherState → Result (GivenLogin LoginToken) Stop → Type 0
HoldsLogin a env settings old found before new more later result =
    IfSome (key_of before) (λ key. HoldsOne a (login_holding key env settings) old new (map bare found) (map bare more) (login_at (login_kept before)) (login_at (login_kept later)) result)

-- A section of the token in this state gave this answer. A load that it finished added one record, whose
-- receipts are what the journal gained, and a hit added none. Where no state is told before, none is after.
abbrev pub StateAnswers : {A T E : Type 0} → Rules T E → Ghosts A → Variables → CallSettings → A → Option (TokenState T E) → A → Option (TokenState T E) → Result T E → Type 0
StateAnswers t a env settings old (Some before) new (Some later) answer = Answers t a before.key env settings old before.loads new later.loads answer
StateAnswers t a env settings old None new None answer = Unit {0}
StateAnswers t a env settings old (Some before) new None answer = ⊥
StateAnswers t a env settings old None new (Some later) answer = ⊥

-- the same of the token of IAM Identity Center, and of that of a sign-in session
abbrev pub SsoAnswers : {A : Type 0} → Ghosts A → Variables → CallSettings → A → Option EitherState → A → Option EitherState → GivenSso CachedSsoToken → Type 0
SsoAnswers a env settings old before new later answer = StateAnswers sso_rules a env settings old (sso_state_in before) new (sso_state_in later) answer

abbrev pub LoginAnswers : {A : Type 0} → Ghosts A → Variables → CallSettings → A → Option EitherState → A → Option EitherState → GivenLogin LoginToken → Type 0
LoginAnswers a env settings old before new later answer = StateAnswers login_rules a env settings old (login_state_in before) new (login_state_in later) answer

-- no load was made, and no attempt is noted
abbrev pub no_loads : {T E : Type 0} → History T E
no_loads = record { load = None; last = None; records = [] }

-- No load was made of the token of this state, and no attempt is noted.
abbrev pub HasNoLoads : EitherState → Type 0
HasNoLoads (Sso state) = state.loads ≡ no_loads
HasNoLoads (Login state) = state.loads ≡ no_loads

-- the state with what is kept now as its origin, and without records
abbrev pub trimmed_state : EitherState → EitherState
trimmed_state (Sso state) = Sso (record state { loads = trimmed state.loads })
trimmed_state (Login state) = Login (record state { loads = trimmed state.loads })

-- No record of a load is in this state.
abbrev pub HasNoRecords : EitherState → Type 0
HasNoRecords (Sso state) = state.loads.records ≡ []
HasNoRecords (Login state) = state.loads.records ≡ []
