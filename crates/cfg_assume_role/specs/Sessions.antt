-- What a role's provider reads of sign-in sessions.
use Rattle.std.specs.Prelude.{◌≡◌, ◌⊎◌, List, [], ◌++◌}
use Rattle.cfg_world.specs.Fits.{Pair}
use Rattle.cfg_world.specs.Inquiry.{Reads, Begun}
use Rattle.cfg_kept.specs.Kinds.{Value}
use Rattle.cfg_providers.specs.CustomSources.{Answer}
use Rattle.cfg_chain.specs.Sessions.{ChainReadsSession, StopsInSession}
use Rattle.cfg_assume_role.specs.declared.call.RoleCall.{RoleCall}
use Rattle.cfg_assume_role.specs.Bases.{Base, ByDefault}
use Rattle.cfg_assume_role.specs.Roles.{behind_base}

-- what its base reads: a default chain by its plan; every other finds and asks nothing
abbrev pub BaseReadsSession : Base → List Value → List Pair → Answer → Type 0
BaseReadsSession (ByDefault over) found journal given = ChainReadsSession over found journal given
BaseReadsSession _ found journal given = (found ≡ []) × (journal ≡ [])

-- The part of the base, and behind it what is asked with the credentials that it gave, which is the outcome.
pub record RoleReadsSession (call : RoleCall) (base : Base) (found : List Value) (journal : List Pair) (out : Answer) : Type 0 where
  pub base_part : List Pair
  pub role_part : List Pair
  pub given : Answer
  pub parts : journal ≡ base_part ++ role_part
  pub reads : BaseReadsSession base found base_part given
  pub signs : Reads (behind_base call given) role_part out

-- ---- a call for which memory ran out

-- It stopped behind the part of the base.
pub record RoleStopsBehind (call : RoleCall) (base : Base) (found : List Value) (journal : List Pair) : Type 0 where
  pub base_part : List Pair
  pub role_part : List Pair
  pub given : Answer
  pub parts : journal ≡ base_part ++ role_part
  pub reads : BaseReadsSession base found base_part given
  pub signs : Begun (behind_base call given) role_part

-- within it
abbrev pub BaseStopsInSession : Base → List Value → List Pair → Type 0
BaseStopsInSession (ByDefault over) found journal = StopsInSession over found journal
BaseStopsInSession _ found journal = (found ≡ []) × (journal ≡ [])

-- or before anything was asked
abbrev pub RoleStopsInSession : RoleCall → Base → List Value → List Pair → Type 0
RoleStopsInSession call base found journal = RoleStopsBehind call base found journal ⊎ BaseStopsInSession base found journal ⊎ (journal ≡ [])
