-- What a call reads of a sign-in session.
use Rattle.std.specs.Prelude.{◌≡◌, ℕ, List, [], ◌++◌, ◌⊎◌, Option, Ok, Err, IfOk}
use Rattle.cfg_world.specs.Fits.{Pair}
use Rattle.cfg_world.specs.Inquiry as low
use Rattle.cfg_world.specs.LastReadings.{last_reading}
use Rattle.cfg_kept.specs.Kinds.{Value, States}
use Rattle.cfg_kept.specs.KeptInquiry.{Reads, Begins}
use Rattle.cfg_profile.specs.declared.chain.BaseProvider.{BaseProvider}
use Rattle.cfg_profile.specs.declared.chain.BaseProvider.TheVariants as base
use Rattle.cfg_profile.specs.declared.chain.ProfileChain.{ProfileChain}
use Rattle.cfg_profile.specs.declared.chain.RoleArn.{RoleArn}
use Rattle.cfg_profile.specs.Configuration.{Configuration}
use Rattle.cfg_providers.specs.CustomSources.{Answer}
use Rattle.cfg_providers.specs.EnvironmentKeys.{environment}
use Rattle.cfg_login.specs.declared.asked_by.AskedBy.TheVariants as by
use Rattle.cfg_login.specs.Endings.{EndsAfter}
use Rattle.cfg_login.specs.FoundSessions.{ReadsNoSession}
use Rattle.cfg_login.specs.SignIns.{sign_in_credentials}
use Rattle.cfg_chain.specs.Settings.{ChainSetting, names_of}
use Rattle.cfg_chain.specs.profile.Causes.{of_base}
use Rattle.cfg_chain.specs.profile.Plans.{Planned, plan}
use Rattle.cfg_chain.specs.profile.Profiles.{assumed}

-- The base is this session.
abbrev pub IsSession : BaseProvider → List ℕ → Type 0
IsSession (base.LoginSession named) session = named ≡ session
IsSession _ session = ⊥

-- and the base is none
abbrev pub IsNoSession : BaseProvider → Type 0
IsNoSession (base.LoginSession named) = ⊥
IsNoSession _ = Unit {0}

-- There is no plan, or it does not begin with a session.
abbrev pub PlansNoSession : Planned → Type 0
PlansNoSession (Ok p) = IsNoSession p.base
PlansNoSession (Err e) = Unit {0}

-- The plan of the selected profile begins with a session.
pub record PlansSession (over : ChainSetting) : Type 0 where
  pub chain : ProfileChain
  pub session : List ℕ
  pub plans : plan over.configuration (names_of over.sources) ≡ Ok chain
  pub begins : IsSession chain.base session

-- The journal begins with the part of the session, which found all the values. Its credentials end after the last
-- reading of the clock in this part.
pub record BeginsUnexpired (over : ChainSetting) (session : List ℕ) (found : List Value) (journal : List Pair) : Type 0 where
  pub part : List Pair
  pub rest : List Pair
  pub given : Answer
  pub parts : journal ≡ part ++ rest
  pub reads : Reads (sign_in_credentials over.configuration session by.Profile) found part given
  pub unexpired : IfOk given (λ keys. EndsAfter (last_reading part) keys.expiry)

-- Behind the part that gave credentials the roles are assumed, the first of them with these, and what that gives
-- is the outcome. An error is told as that of the base, and nothing more is asked.
abbrev pub GoesOn : Configuration → List RoleArn → Answer → List Pair → Answer → Type 0
GoesOn conf roles (Ok keys) rest out = low.Reads (assumed conf roles keys) rest out
GoesOn conf roles (Err e) rest out = (rest ≡ []) × (out ≡ Err (of_base e))

-- the same where it has only begun
abbrev pub HasGoneOn : Configuration → List RoleArn → Answer → List Pair → Type 0
HasGoneOn conf roles (Ok keys) rest = low.Begun (assumed conf roles keys) rest
HasGoneOn conf roles (Err e) rest = rest ≡ []

-- The plan begins with a session. The journal is its part, which hands on no expired credentials, and what comes of
-- that part.
pub record HandsOn (over : ChainSetting) (found : List Value) (journal : List Pair) (out : Answer) : Type 0 where
  pub planned : PlansSession over
  pub first : BeginsUnexpired over planned.session found journal
  pub goes_on : GoesOn over.configuration planned.chain.roles first.given first.rest out

-- No sign-in session was looked at, and the plan begins with none.
pub record PassesBySessions (over : ChainSetting) (found : List Value) : Type 0 where
  pub plans : PlansNoSession (plan over.configuration (names_of over.sources))
  pub found_none : ReadsNoSession found

-- what the provider of a profile reads of sessions
abbrev pub ReadsSession : ChainSetting → List Value → List Pair → Answer → Type 0
ReadsSession over found journal out = HandsOn over found journal out ⊎ PassesBySessions over found

-- The environment answered, and nothing was found or asked.
pub record IsOfEnvironment (over : ChainSetting) (found : List Value) (journal : List Pair) (out : Answer) : Type 0 where
  pub finds : found ≡ []
  pub asks : journal ≡ []
  pub answers : out ≡ environment over.configuration.environment

-- and what the default chain reads of them
abbrev pub ChainReadsSession : ChainSetting → List Value → List Pair → Answer → Type 0
ChainReadsSession over found journal out = ReadsSession over found journal out ⊎ IsOfEnvironment over found journal out

-- ---- a call for which memory ran out

-- It stopped behind the part of a session, which hands on no expired credentials.
pub record StopsBehind (over : ChainSetting) (found : List Value) (journal : List Pair) : Type 0 where
  pub planned : PlansSession over
  pub first : BeginsUnexpired over planned.session found journal
  pub goes_on : HasGoneOn over.configuration planned.chain.roles first.given first.rest

-- It stopped within such a part.
pub record StopsWithin (over : ChainSetting) (found : List Value) (journal : List Pair) : Type 0 where
  pub planned : PlansSession over
  pub old : Option States
  pub new : Option States
  pub begins : Begins (sign_in_credentials over.configuration planned.session by.Profile) old found journal new

-- Behind such a part, within it, or without a session; or nothing was asked.
abbrev pub StopsInSession : ChainSetting → List Value → List Pair → Type 0
StopsInSession over found journal = StopsBehind over found journal ⊎ StopsWithin over found journal ⊎ PassesBySessions over found ⊎ (journal ≡ [])
