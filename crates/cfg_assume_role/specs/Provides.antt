-- What a call of a role's provider leaves of the world's journal and of what is kept.
use Rattle.std.specs.Prelude.{◌≡◌, ◌⊎◌, List, Some}
use Rattle.cfg_world.specs.declared.devices.Devices.{Ghosts}
use Rattle.cfg_world.specs.Fits.{Pair}
use Rattle.cfg_world.specs.Held.{Held}
use Rattle.cfg_world.specs.Grows.{Grows, Stays}
use Rattle.cfg_kept.specs.declared.kept.Kept.{Kept}
use Rattle.cfg_kept.specs.Kinds.{Value, States}
use Rattle.cfg_kept.specs.KeptStates.{kept_holdings, states_of}
use Rattle.cfg_kept.specs.KeptInquiry.{KeptInquiry, Reads, Begins, found_by, kept_after}
use Rattle.cfg_providers.specs.CustomSources.{Answer}
use Rattle.cfg_assume_role.specs.declared.call.RoleCall.{RoleCall}
use Rattle.cfg_assume_role.specs.Roles.{role_tree}
use Rattle.cfg_assume_role.specs.Bases.{Base, IsBaseTree}
use Rattle.cfg_assume_role.specs.Causes.{RoleCause}

-- A call of the provider found these values, has this journal, and came to this outcome, over the tree
-- of its base. The outcome has its cause.
pub record IsRoleCall (call : RoleCall) (base : Base) (old new : States) (found : List Value) (part : List Pair) (out : Answer) : Type 0 where
  pub tree : KeptInquiry Answer
  pub is_tree : IsBaseTree base tree
  pub finds : found ≡ found_by (role_tree call tree) old part
  pub reads : Reads (role_tree call tree) found part out
  pub keeps : new ≡ kept_after (role_tree call tree) old part
  pub cause : RoleCause call base old new found part out

-- The journal grew by exactly the part of such a call.
pub record Provides {D : Type 0} (d : Ghosts D) (call : RoleCall) (base : Base) (old new : States) (found : List Value) (before later : Held D) (out : Answer) : Type 0 where
  pub part : List Pair
  pub grows : Grows d part before later
  pub is_call : IsRoleCall call base old new found part out

-- It grew by the beginning of such a part. Each kept value is as the last finished holding left it.
pub record ProvidesBeginning {D : Type 0} (d : Ghosts D) (call : RoleCall) (base : Base) (old new : States) (found : List Value) (before later : Held D) : Type 0 where
  pub tree : KeptInquiry Answer
  pub is_tree : IsBaseTree base tree
  pub part : List Pair
  pub stays : Stays d part before later
  pub begins : Begins (role_tree call tree) (Some old) found part (Some new)

-- Memory ran out: before anything was asked, or over the beginning of a part.
abbrev pub Interrupted : {D : Type 0} → Ghosts D → RoleCall → Base → States → States → List Value → Held D → Held D → Type 0
Interrupted d call base old new found before later =
    ((later ≡ before) × (new ≡ old)) ⊎ ProvidesBeginning d call base old new found before later

-- ---- by what is kept

-- The journal grew by exactly the part of a call on what is kept.
abbrev pub ProvidesOn : {D : Type 0} → Ghosts D → RoleCall → Base → Kept → Kept → Held D → Held D → Answer → Type 0
ProvidesOn d call base old new before later out = Provides d call base (states_of old) (states_of new) (kept_holdings new).found before later out

-- Memory ran out.
abbrev pub InterruptedOn : {D : Type 0} → Ghosts D → RoleCall → Base → Kept → Kept → Held D → Held D → Type 0
InterruptedOn d call base old new before later = Interrupted d call base (states_of old) (states_of new) (kept_holdings new).found before later
