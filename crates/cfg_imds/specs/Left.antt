-- What is kept after a get, or a question for the region, that was stopped.
use Rattle.std.specs.Prelude.{◌≡◌, ◌⊎◌, ℕ, List, Option, Ok}
use Rattle.cfg_world.specs.declared.asking.Asking.{Ghosts}
use Rattle.cfg_world.specs.Beginnings.{IsPrefix}
use Rattle.cfg_world.specs.Follows.{Ends}
use Rattle.cfg_imds.specs.Clients.{ClientRules, settle, get}
use Rattle.cfg_imds.specs.Regions.{region_path}
use Rattle.cfg_imds.specs.Settles.{Given}
use Rattle.cfg_imds.specs.Tokens.{ReceiptedToken, bare_kept}

-- The call began with a whole settle, which left this token: the journal after the call begins with the
-- one after the settle.
pub record SettledFirst {A : Type 0} (a : Ghosts A) (client : ClientRules) (old new : A) (was is : Option ReceiptedToken) : Type 0 where
  pub settled : A
  pub token : List ℕ
  pub ends : Ends a (settle client (bare_kept was)) old settled (Ok token, bare_kept is)
  pub begins : IsPrefix (a.journal settled) (a.journal new)

-- what was kept before it; or what its settle left, where that had come to its end
unfoldable pub LeftBy : {A : Type 0} → Ghosts A → ClientRules → A → A → Option ReceiptedToken → Option ReceiptedToken → Type 0
LeftBy a client old new was is = (is ≡ was) ⊎ SettledFirst a client old new was is

-- What is kept where a question for the region stopped: what a stopped get leaves, or what a finished get left.
unfoldable pub RegionLeftBy : {A : Type 0} → Ghosts A → ClientRules → A → A → Option ReceiptedToken → Option ReceiptedToken → Type 0
RegionLeftBy a client old new was is = LeftBy a client old new was is ⊎ ((got : Given) × Ends a (get client (bare_kept was) region_path) old new (got, bare_kept is))
