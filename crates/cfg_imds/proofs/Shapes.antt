-- What the parts of a client's calls look like.
use Rattle.std.proofs.Common.{◌≡◌, ℕ, ◌+◌, ◌-◌, List, [], ◌∷◌, ◌++◌, Bool, true, false, Option, refl, sym, ap, subst, ◌∙◌, append-nil, add-one}
use Rattle.std.specs.Prelude.{Result, Ok, if◌then◌else◌}
use Rattle.cfg_types.specs.declared.errors.imds.ImdsError.{ImdsError}
use Rattle.cfg_types.specs.declared.request.Request.{Request}
use Rattle.cfg_world.specs.declared.ask.Question.{Question}
use Rattle.cfg_world.specs.declared.ask.Question.TheVariants.{Now, Send}
use Rattle.cfg_world.specs.Fits.{Pair}
use Rattle.cfg_world.specs.Inquiry.{Inquiry, Done, Reads, after}
use Rattle.cfg_world.specs.Leaves.{clock, moment_of}
use Rattle.cfg_world.proofs.Inquiries.{split_after}
use Rattle.cfg_exchange.specs.Attempts.{Attempts, asked}
use Rattle.cfg_exchange.specs.Classifiers.{is_repeated}
use Rattle.cfg_exchange.specs.declared.reading.ReplyKind.{ReplyKind}
use Rattle.cfg_exchange.specs.declared.reading.ReplyKind.TheVariants as kind
use Rattle.cfg_exchange.proofs.Pieces.{attempts_piece}
use Rattle.cfg_imds.specs.Fetches.{fetched, fetch_at}
use Rattle.cfg_imds.specs.Requests.{Service, tries, token_request, get_request, token_attempts, get_attempts}
use Rattle.cfg_imds.specs.SettledParts.{Renewed, SettledBy, SettledPart}
use Rattle.cfg_imds.specs.Settles.{Settled, has_time_left, kept_value, renewal, renew, settle_at}
use Rattle.cfg_imds.specs.Tokens.{Token}

pub done_is : {R : Type 0} (r : R) (journal : List Pair) (out : R) → Reads (Done r) journal out → (journal ≡ []) × (r ≡ out)
done_is r [] out h = (refl, h)
done_is r (e ∷ journal) out h = absurd h

-- a part that nothing follows
pub nothing_after : (part rest whole : List Pair) → whole ≡ part ++ rest → rest ≡ [] → whole ≡ part
nothing_after part rest whole e n = e ∙ ap (λ r. part ++ r) n ∙ append-nil part

pub tried : (s : Service) (kind : ReplyKind) (r : Request) (part : List Pair) (last : Pair) → Reads (tries s kind r) part last →
    Attempts (Send r) (s.settings.max_attempts - 1 + 1) (is_repeated kind s.repeats) part last
unfolding tries
tried s kind r part last h = rw add-one (attempts_piece (s.settings.max_attempts - 1) (Send r) (is_repeated kind s.repeats) part last h)

pub asked_is : (q : Question) (part : List Pair) (e : Pair) → Reads (asked q) part e → (part ≡ e ∷ []) × (e.0 ≡ q)
unfolding asked
asked_is q [] e h = absurd h
asked_is q (x ∷ []) e h =
    let same : x ≡ e = ap (λ t. (t, x.1)) h.0 ∙ h.1 in
    (ap (λ t. t ∷ []) same, ap (λ t. t.0) (sym same) ∙ h.0)
asked_is q (x ∷ y ∷ part) e h = absurd h.1

abbrev after_reply : Pair → Inquiry Settled
after_reply reply = after (asked Now) (λ reading. Done (renewal reply reading))

pub renew_shape : (s : Service) (endpoint : List ℕ) (part : List Pair) (out : Settled) → Reads (renew s endpoint) part out → Renewed s endpoint part out
unfolding renew
renew_shape s endpoint part out h =
    let p = split_after (token_attempts s endpoint) after_reply part out h in
    let r = split_after (asked Now) (λ reading. Done (renewal p.middle reading)) p.rest out p.then in
    let now = asked_is Now r.part r.middle r.first in
    let end = done_is (renewal p.middle r.middle) r.rest out r.then in
    record {
      tokens = p.part;
      reply = p.middle;
      reading = r.middle;
      parts = p.parts ∙ ap (λ t. p.part ++ t) (nothing_after r.part r.rest p.rest r.parts end.0 ∙ now.0);
      tried = tried s kind.MetadataToken (token_request s.settings endpoint) p.part p.middle p.first;
      asks = now.1;
      is = end.1;
    }

by_good : (s : Service) (endpoint : List ℕ) (kept : Option Token) (b : Bool) (part : List Pair) (out : Settled) →
    Reads (if b then Done (Ok (kept_value kept), kept) else renew s endpoint) part out → SettledBy s endpoint kept b part out
by_good s endpoint kept true part out h = done_is (Ok (kept_value kept), kept) part out h
by_good s endpoint kept false part out h = renew_shape s endpoint part out h

pub settle_shape : (s : Service) (endpoint : List ℕ) (kept : Option Token) (part : List Pair) (out : Settled) → Reads (settle_at s endpoint kept) part out → SettledPart s endpoint kept part out
unfolding settle_at clock
settle_shape s endpoint kept [] out h = absurd h
settle_shape s endpoint kept (e ∷ rest) out h = record {
  first = e;
  rest = rest;
  parts = refl;
  asks = h.0;
  then = by_good s endpoint kept (has_time_left kept (moment_of e.1)) rest out h.1;
}

-- attempts at a path, and the last entry decides
pub record Fetched (s : Service) (endpoint path token : List ℕ) (part : List Pair) (out : Result Pair ImdsError) : Type 0 where
  pub last : Pair
  pub tried : Attempts (Send (get_request s.settings endpoint path token)) (s.settings.max_attempts - 1 + 1) (is_repeated kind.MetadataText s.repeats) part last
  pub is : fetched last ≡ out

pub fetch_shape : (s : Service) (endpoint path token : List ℕ) (part : List Pair) (out : Result Pair ImdsError) → Reads (fetch_at s endpoint path token) part out → Fetched s endpoint path token part out
unfolding fetch_at
fetch_shape s endpoint path token part out h =
    let p = split_after (get_attempts s endpoint path token) (λ last. Done (fetched last)) part out h in
    let end = done_is (fetched p.middle) p.rest out p.then in
    let whole = nothing_after p.part p.rest part p.parts end.0 in
    let piece = tried s kind.MetadataText (get_request s.settings endpoint path token) p.part p.middle p.first in
    record {
      last = p.middle;
      tried = subst (λ t. Attempts (Send (get_request s.settings endpoint path token)) (s.settings.max_attempts - 1 + 1) (is_repeated kind.MetadataText s.repeats) t p.middle) (sym whole) piece;
      is = end.1;
    }
