-- The steps of a call that reads a region from a get.
use Rattle.std.proofs.Common.{◌≡◌, ℕ, List, Option, inl, inr, subst}
use Rattle.cfg_world.specs.declared.asking.Asking.{Ghosts}
use Rattle.cfg_world.specs.Inquiry.{Done}
use Rattle.cfg_world.specs.Follows.{Ends}
use Rattle.cfg_world.proofs.Inquiries.{ends_after, waits_after, waits_first, breaks_after, breaks_first, ends_done, breaks_here}
use Rattle.cfg_imds.specs.Clients.{ClientRules, get}
use Rattle.cfg_imds.specs.Left.{LeftBy, RegionLeftBy}
use Rattle.cfg_imds.specs.Regions.{Located, region_in, region_path, located}
use Rattle.cfg_imds.specs.Settles.{Given}
use Rattle.cfg_imds.specs.Tokens.{Token, ReceiptedToken, bare_kept}

abbrev pair : Option (List ℕ) → Option Token → Located
pair region kept = (region, kept)

pub ends_located : {W : Type 0} {w : Ghosts W} {old : W} (got : Given) (kept : Option Token) (region : Option (List ℕ)) → region_in got ≡ region → Ends w (Done (located (got, kept))) old old (pair region kept)
unfolding located
ends_located {w = w} {old = old} got kept region e = subst (λ r. Ends w (Done (pair (region_in got) kept)) old old (pair r kept)) e ends_done

pub left_stopped : {W : Type 0} (w : Ghosts W) (old new : W) (client : ClientRules) (was is : Option ReceiptedToken) → LeftBy w client old new was is → RegionLeftBy w client old new was is
unfolding RegionLeftBy
left_stopped w old new client was is h = inl h

pub left_whole : {W : Type 0} (w : Ghosts W) (old new : W) (client : ClientRules) (was is : Option ReceiptedToken) (got : Given) →
    Ends w (get client (bare_kept was) region_path) old new (got, bare_kept is) → RegionLeftBy w client old new was is
unfolding RegionLeftBy
left_whole w old new client was is got h = inr (got, h)

pub ruleset located_steps = (ends_after, waits_after, waits_first, breaks_after, breaks_first, ends_located, ends_done, breaks_here, left_stopped, left_whole)
