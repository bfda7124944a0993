-- What the check of a full address leaves of the world's journal.
use Rattle.std.specs.Prelude.{◌≡◌, ◌⊎◌, ℕ, List, Bool, true, false, Result, Ok, Err, IfOk}
use Rattle.cfg_types.specs.declared.errors.container.InvalidFullUriError.TheVariants as invalid
use Rattle.cfg_world.specs.declared.devices.Devices.{Ghosts}
use Rattle.cfg_world.specs.declared.asking.Asking.{Ghosts as Askers}
use Rattle.cfg_world.specs.declared.asking.Stop.{Stop}
use Rattle.cfg_world.specs.declared.asking.Stop.TheVariants.{OutOfMemory}
use Rattle.cfg_world.specs.Fits.{Pair}
use Rattle.cfg_world.specs.Held.{Held}
use Rattle.cfg_world.specs.Grows.{Grows, Stays}
use Rattle.cfg_world.specs.Inquiry.{Reads, Begun}
use Rattle.cfg_world.specs.Follows.{Follows}
use Rattle.cfg_exchange.specs.declared.full_uri.FullUri.{FullUri}
use Rattle.cfg_exchange.specs.FullUris.{IsFullUri}
use Rattle.cfg_exchange.specs.Targets.{Checked, full_target}
use Rattle.cfg_exchange.specs.AllowedTargets.{IsAllowedTarget}

-- A call that follows the check of what the text names; or memory ran out before that was known, and
-- nothing was asked.
abbrev pub FollowsText : {A : Type 0} → Askers A → List ℕ → Bool → A → A → Result Checked Stop → Type 0
FollowsText a text dns old new out =
    ((out ≡ Err OutOfMemory) × (new ≡ old))
    ⊎ ((named : FullUri) × IsFullUri text named × Follows a (full_target dns named) old new out)

-- whether memory ran out
abbrev pub is_memory : Checked → Bool
is_memory (Ok target) = false
is_memory (Err invalid.OutOfMemory) = true
is_memory (Err _) = false

-- The journal grew by exactly the part of the check: nothing, or one look-up of the host.
pub record Validates {D : Type 0} (d : Ghosts D) (text : List ℕ) (dns : Bool) (old new : Held D) (out : Checked) : Type 0 where
  pub named : FullUri
  pub names : IsFullUri text named
  pub part : List Pair
  pub grows : Grows d part old new
  pub reads : Reads (full_target dns named) part out
  -- a target is allowed by what was looked up in this part
  pub allowed : IfOk out (IsAllowedTarget text part)

-- It grew by the beginning of such a part.
pub record Unfinished {D : Type 0} (d : Ghosts D) (text : List ℕ) (dns : Bool) (old new : Held D) : Type 0 where
  pub named : FullUri
  pub names : IsFullUri text named
  pub part : List Pair
  pub stays : Stays d part old new
  pub begun : Begun (full_target dns named) part

-- Memory ran out: before anything was asked, or over the beginning of a part.
abbrev pub Unchecked : {D : Type 0} → Ghosts D → List ℕ → Bool → Held D → Held D → Type 0
Unchecked d text dns old new = (new ≡ old) ⊎ Unfinished d text dns old new
