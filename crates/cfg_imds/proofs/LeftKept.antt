-- What is kept after a call that was stopped.
use Rattle.std.proofs.Common.{◌≡◌, ℕ, List, Bool, true, false, Option, Some, None, inl, inr, refl, sym, ap, ◌∙◌}
use Rattle.std.specs.Option.{option_or}
use Rattle.std.specs.Prelude.{OnErr, Result, Ok, Err, option_map}
use Rattle.cfg_types.specs.declared.errors.imds.FailedToLoadToken.{FailedToLoadToken}
use Rattle.cfg_types.specs.declared.errors.imds.UnexpectedCause.{UnexpectedCause}
use Rattle.cfg_world.specs.declared.asking.Asking.{Ghosts}
use Rattle.cfg_world.specs.declared.asking.Stop.{Stop}
use Rattle.cfg_world.specs.declared.asking.Stop.TheVariants.{OutOfMemory, Open}
use Rattle.cfg_world.specs.Beginnings.{IsPrefix}
use Rattle.cfg_world.specs.Fits.{Pair}
use Rattle.cfg_world.specs.Follows.{Ends, Follows}
use Rattle.cfg_world.specs.Inquiry.{Inquiry, Reads}
use Rattle.cfg_world.specs.Leaves.{moment_of}
use Rattle.cfg_imds.specs.declared.endpoint.Endpoint.{Endpoint}
use Rattle.cfg_imds.specs.Calls.{is_memory, or_memory}
use Rattle.cfg_imds.specs.Clients.{ClientRules, place_of, endpoint_fault, path_fault, why_unusable, settle}
use Rattle.cfg_imds.specs.Left.{LeftBy}
use Rattle.cfg_imds.specs.Requests.{Service}
use Rattle.cfg_imds.specs.SettledParts.{SettledBy}
use Rattle.cfg_imds.specs.Settles.{Given, Settled, has_time_left, renewed, renewal, with_kept}
use Rattle.cfg_imds.specs.Tokens.{Token, ReceiptedToken, bare_token, read_token}
use Rattle.cfg_imds.proofs.Shapes.{settle_shape}

clash : false ≡ true → ⊥
clash h = absurd cc

no_fault : (first other : Option UnexpectedCause) → option_or first other ≡ None → other ≡ None
no_fault None other h = h
no_fault (Some cause) other h = absurd cc

pub usable_endpoint : (endpoint : Endpoint) (path : List ℕ) → why_unusable endpoint path ≡ None → endpoint_fault endpoint ≡ None
unfolding why_unusable
usable_endpoint endpoint path h = no_fault (path_fault path) (endpoint_fault endpoint) h

-- ---- a settle never says by itself that memory ran out

by_read : (r : Result Token FailedToLoadToken) → is_memory ((renewed r).0) ≡ false
by_read (Ok token) = refl
by_read (Err e) = refl

by_renewal : (reply reading : Pair) → is_memory ((renewal reply reading).0) ≡ false
unfolding renewal
by_renewal reply reading = by_read (read_token reply reading)

by_good : (s : Service) (endpoint : List ℕ) (kept : Option Token) (b : Bool) (rest : List Pair) (out : Settled) → SettledBy s endpoint kept b rest out → is_memory (out.0) ≡ false
by_good s endpoint kept true rest out h = ap (λ o. is_memory (o.0)) (sym h.1)
by_good s endpoint kept false rest out h = ap (λ o. is_memory (o.0)) (sym h.is) ∙ by_renewal h.reply h.reading

no_memory : (client : ClientRules) (kept : Option Token) (part : List Pair) (out : Settled) → Reads (settle client kept) part out → is_memory (out.0) ≡ false
no_memory client kept part out h =
    let s = settle_shape client.service (place_of client.endpoint) kept part out h in
    by_good client.service (place_of client.endpoint) kept (has_time_left kept (moment_of s.first.1)) s.rest out s.then

pub settle_stays : {W : Type 0} (w : Ghosts W) (old new : W) (client : ClientRules) (kept left : Option Token) (r : Result Given Stop) (P : Type 0) →
    Follows w (settle client kept) old new (with_kept left r) → OnErr r P → is_memory (or_memory r) ≡ true → P
settle_stays w old new client kept left (Ok out) P h s m = absurd (clash (sym (no_memory client kept h.part (out, left) h.reads) ∙ m))
settle_stays w old new client kept left (Err stop) P h s m = s

pub left_alone : {W : Type 0} (w : Ghosts W) (old new : W) (client : ClientRules) (was is : Option ReceiptedToken) → is ≡ was → LeftBy w client old new was is
unfolding LeftBy
left_alone w old new client was is e = inl e

-- what was in the journal before a call stands at its beginning after it
goes_on : {W R : Type 0} (w : Ghosts W) (inquiry : Inquiry R) (old new : W) (r : Result R Stop) → Follows w inquiry old new r → IsPrefix (w.journal old) (w.journal new)
goes_on w inquiry old new (Ok out) h = (h.part, h.grows)
goes_on w inquiry old new (Err Open) h = (h.part, h.grows)
goes_on w inquiry old new (Err OutOfMemory) h = (h.part, h.grows)

pub left_settled : {W R : Type 0} (w : Ghosts W) (old mid new : W) (client : ClientRules) (was is : Option ReceiptedToken) (token : List ℕ) (rest : Inquiry R) (r : Result R Stop) →
    Ends w (settle client (option_map bare_token was)) old mid (Ok token, option_map bare_token is) → Follows w rest mid new r → LeftBy w client old new was is
unfolding LeftBy
left_settled w old mid new client was is token rest r h then = inr (record { settled = mid; token = token; ends = h; begins = goes_on w rest mid new r then })

pub on_err : {T E : Type 0} (r : Result T E) (P : Type 0) → P → OnErr r P
on_err (Ok x) P p = tt
on_err (Err e) P p = p
