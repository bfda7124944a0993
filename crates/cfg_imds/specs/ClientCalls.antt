-- What the calls of a client over a world leave: of the journal, and of the token that is kept.
use Rattle.std.specs.Prelude.{ℕ, List, Option, Result}
use Rattle.std.specs.Result.{result_err}
use Rattle.cfg_types.specs.declared.errors.imds.ImdsError.{ImdsError}
use Rattle.cfg_world.specs.declared.devices.Devices.{Ghosts}
use Rattle.cfg_world.specs.Fits.{Pair}
use Rattle.cfg_world.specs.Held.{Held}
use Rattle.cfg_imds.specs.Calls.{CallEnds, CallBreaks}
use Rattle.cfg_imds.specs.Causes.{why_asked, last_fault, why_no_text, settled_error}
use Rattle.cfg_imds.specs.Clients.{ClientRules, settle, fetch, get}
use Rattle.cfg_imds.specs.Settles.{Given}
use Rattle.cfg_imds.specs.Tokens.{ReceiptedToken, bare_kept}

module _ {D : Type 0} (d : Ghosts D) (client : ClientRules) where
  -- a settle, from the token that was kept to the one that is kept then
  abbrev pub Settles : Option ReceiptedToken → Held D → Held D → Given → Option ReceiptedToken → Type 0
  Settles kept old new out left = CallEnds d (settle client (bare_kept kept)) settled_error why_asked old new (out, bare_kept left)

  abbrev pub SettleBreaks : Option ReceiptedToken → Held D → Held D → Type 0
  SettleBreaks kept old new = CallBreaks d (settle client (bare_kept kept)) old new

  -- a fetch of what stands at a path, with a session token
  abbrev pub Fetches : List ℕ → List ℕ → Held D → Held D → Result Pair ImdsError → Type 0
  Fetches path token old new out = CallEnds d (fetch client path token) (λ r. result_err r) last_fault old new out

  abbrev pub FetchBreaks : List ℕ → List ℕ → Held D → Held D → Type 0
  FetchBreaks path token old new = CallBreaks d (fetch client path token) old new

  -- a get of the text at a path, from the token that was kept to the one that is kept then
  abbrev pub Gets : List ℕ → Option ReceiptedToken → Held D → Held D → Given → Option ReceiptedToken → Type 0
  Gets path kept old new out left = CallEnds d (get client (bare_kept kept) path) settled_error (why_no_text client path) old new (out, bare_kept left)

  abbrev pub GetBreaks : List ℕ → Option ReceiptedToken → Held D → Held D → Type 0
  GetBreaks path kept old new = CallBreaks d (get client (bare_kept kept) path) old new
