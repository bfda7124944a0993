-- Where nothing is asked, and what is kept.
use Rattle.std.proofs.Common.{◌≡◌, ℕ, List, [], ◌∷◌, Bool, true, false, Option, Some, None, refl, sym, ap}
use Rattle.std.specs.Prelude.{Result, Ok, Err, is_none}
use Rattle.cfg_types.specs.declared.errors.imds.FailedToLoadToken.{FailedToLoadToken}
use Rattle.cfg_types.specs.declared.errors.imds.ImdsError.{ImdsError}
use Rattle.cfg_types.specs.declared.errors.imds.ImdsError.TheVariants as imds
use Rattle.cfg_types.specs.declared.errors.imds.UnexpectedCause.{UnexpectedCause}
use Rattle.cfg_world.specs.Fits.{Pair}
use Rattle.cfg_world.specs.Inquiry.{Inquiry, Done, Reads, Begun, after}
use Rattle.cfg_world.specs.Leaves.{moment_of}
use Rattle.cfg_imds.specs.Clients.{ClientRules, place_of, why_unusable, settle, with_token, unless_unusable, get}
use Rattle.cfg_imds.specs.Requests.{Service}
use Rattle.cfg_imds.specs.SettledParts.{SettledBy}
use Rattle.cfg_imds.specs.Settles.{Settled, Given, has_time_left, kept_value, renewed, renewal}
use Rattle.cfg_imds.specs.Tokens.{Token, read_token}
use Rattle.cfg_imds.proofs.Shapes.{settle_shape}

done_quiet : {R : Type 0} (r : R) (part : List Pair) → Begun (Done r) part → part ≡ []
done_quiet r [] h = refl
done_quiet r (e ∷ part) h = absurd h

by_fault : (fault : Option UnexpectedCause) (asks : Inquiry Settled) (kept : Option Token) (part : List Pair) → is_none fault ≡ false → Begun (unless_unusable fault asks kept) part → part ≡ []
by_fault None asks kept part n h = absurd cc
by_fault (Some cause) asks kept part n h = done_quiet {R = Settled} (Err (imds.Unexpected cause), kept) part h

pub unusable_quiet : (client : ClientRules) (kept : Option Token) (path : List ℕ) (part : List Pair) → is_none (why_unusable client.endpoint path) ≡ false → Begun (get client kept path) part → part ≡ []
unfolding get
unusable_quiet client kept path part n h = by_fault (why_unusable client.endpoint path) (after (settle client kept) (with_token client path)) kept part n h

-- ---- a kept token

abbrev refused : ImdsError → Option Token → Settled
refused e left = (Err e, left)

abbrev handed : List ℕ → Option Token → Settled
handed value kept = (Ok value, kept)

abbrev is_given : Given → Bool
is_given (Ok value) = true
is_given (Err e) = false

clash : true ≡ false → ⊥
clash h = absurd cc

ok_no_err : (value : List ℕ) (kept left : Option Token) (e : ImdsError) → handed value kept ≡ refused e left → ⊥
ok_no_err value kept left e h = clash (ap (λ s. is_given s.0) h)

renewed_none : (r : Result Token FailedToLoadToken) (e : ImdsError) (left : Option Token) → renewed r ≡ refused e left → left ≡ None
renewed_none (Ok token) e left h = absurd (ok_no_err token.value (Some token) left e h)
renewed_none (Err error) e left h = sym (ap (λ s. s.1) h)

renewal_none : (reply reading : Pair) (e : ImdsError) (left : Option Token) → renewal reply reading ≡ refused e left → left ≡ None
unfolding renewal
renewal_none reply reading e left h = renewed_none (read_token reply reading) e left h

settled_none : (s : Service) (endpoint : List ℕ) (kept : Option Token) (b : Bool) (rest : List Pair) (e : ImdsError) (left : Option Token) → SettledBy s endpoint kept b rest (refused e left) → left ≡ None
settled_none s endpoint kept true rest e left h = absurd (ok_no_err (kept_value kept) kept left e h.1)
settled_none s endpoint kept false rest e left h = renewal_none h.reply h.reading e left h.is

pub refusal_keeps_nothing : (client : ClientRules) (kept : Option Token) (part : List Pair) (e : ImdsError) (left : Option Token) → Reads (settle client kept) part (refused e left) → left ≡ None
refusal_keeps_nothing client kept part e left h =
    let s = settle_shape client.service (place_of client.endpoint) kept part (refused e left) h in
    settled_none client.service (place_of client.endpoint) kept (has_time_left kept (moment_of s.first.1)) s.rest e left s.then
