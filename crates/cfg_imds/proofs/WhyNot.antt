-- Why a call of a client gives nothing, over its part.
use Rattle.std.proofs.Common.{◌≡◌, ℕ, List, [], ◌∷◌, ◌++◌, Bool, true, false, Option, Some, None, refl, sym, ap, ◌∙◌, append_assoc}
use Rattle.std.specs.Option.{option_or}
use Rattle.std.specs.Prelude.{Result, Ok, Err, option_map}
use Rattle.std.specs.Result.{result_err}
use Rattle.cfg_types.specs.declared.errors.imds.FailedToLoadToken.{FailedToLoadToken}
use Rattle.cfg_types.specs.declared.errors.imds.ImdsError.{ImdsError}
use Rattle.cfg_types.specs.declared.errors.imds.ImdsError.TheVariants as imds
use Rattle.cfg_types.specs.declared.errors.imds.UnexpectedCause.{UnexpectedCause}
use Rattle.cfg_types.specs.declared.request.Request.{Request}
use Rattle.cfg_world.specs.declared.ask.Question.TheVariants.{Send}
use Rattle.cfg_world.specs.Fits.{Pair}
use Rattle.cfg_world.specs.Inquiry.{Done, Reads, after}
use Rattle.cfg_world.specs.Leaves.{moment_of}
use Rattle.cfg_world.proofs.Inquiries.{split_after}
use Rattle.cfg_imds.specs.Causes.{token_fault, by_question, fault_after, why_asked, last_fault, why_no_text, settled_error}
use Rattle.cfg_imds.specs.Clients.{ClientRules, place_of, why_unusable, settle, fetch, fetched_text, fetch_text, with_token, unless_unusable, get}
use Rattle.cfg_imds.specs.Fetches.{entry_fault, unless_fault, fetched}
use Rattle.cfg_imds.specs.Requests.{Service, get_request}
use Rattle.cfg_imds.specs.SettledParts.{Renewed, SettledBy, SettledPart}
use Rattle.cfg_imds.specs.Settles.{Given, Settled, has_time_left, renewed, renewal}
use Rattle.cfg_imds.specs.Tokens.{Token, read_token}
use Rattle.cfg_imds.proofs.Shapes.{done_is, nothing_after, settle_shape, fetch_shape}

-- ---- the end of a part

pair_end : (a : Pair) (front : List Pair) (b c : Pair) → fault_after a (front ++ b ∷ c ∷ []) ≡ fault_after b (c ∷ [])
pair_end a [] b c = refl
pair_end a (x ∷ []) b c = refl
pair_end a (x ∷ y ∷ front) b c = pair_end x (y ∷ front) b c

sent_end : (a : Pair) (front : List Pair) (last : Pair) (r : Request) → last.0 ≡ Send r → fault_after a (front ++ last ∷ []) ≡ entry_fault last
sent_end a [] last r e = ap (λ q. by_question q (entry_fault last) (token_fault a last)) e
sent_end a (x ∷ []) last r e = sent_end x [] last r e
sent_end a (x ∷ y ∷ front) last r e = sent_end x (y ∷ front) last r e

last_end : (front : List Pair) (last : Pair) → last_fault (front ++ last ∷ []) ≡ entry_fault last
last_end [] last = refl
last_end (x ∷ []) last = refl
last_end (x ∷ y ∷ front) last = last_end (y ∷ front) last

-- ---- a settle

by_read : (r : Result Token FailedToLoadToken) → settled_error (renewed r) ≡ option_map imds.FailedToLoadToken (result_err r)
by_read (Ok token) = refl
by_read (Err e) = refl

renewal_error : (reply reading : Pair) → settled_error (renewal reply reading) ≡ token_fault reply reading
unfolding renewal
renewal_error reply reading = by_read (read_token reply reading)

renewed_fault : (s : Service) (endpoint : List ℕ) (first : Pair) (rest : List Pair) (out : Settled) → Renewed s endpoint rest out → settled_error out ≡ fault_after first rest
renewed_fault s endpoint first rest out h =
    let front = h.tried.before in
    let shape : rest ≡ front ++ h.reply ∷ h.reading ∷ [] = h.parts ∙ ap (λ t. t ++ h.reading ∷ []) h.tried.parts ∙ append_assoc front (h.reply ∷ []) (h.reading ∷ []) in
    ap settled_error (sym h.is) ∙ renewal_error h.reply h.reading
    ∙ sym (ap (fault_after first) shape ∙ pair_end first front h.reply h.reading ∙ ap (λ q. by_question q (entry_fault h.reading) (token_fault h.reply h.reading)) h.asks)

settled_by : (s : Service) (endpoint : List ℕ) (kept : Option Token) (b : Bool) (first : Pair) (rest : List Pair) (out : Settled) → SettledBy s endpoint kept b rest out → settled_error out ≡ fault_after first rest
settled_by s endpoint kept true first rest out h = ap settled_error (sym h.1) ∙ sym (ap (fault_after first) h.0)
settled_by s endpoint kept false first rest out h = renewed_fault s endpoint first rest out h

part_fault : (s : Service) (endpoint : List ℕ) (kept : Option Token) (part : List Pair) (out : Settled) → SettledPart s endpoint kept part out → settled_error out ≡ why_asked part
part_fault s endpoint kept part out h = settled_by s endpoint kept (has_time_left kept (moment_of h.first.1)) h.first h.rest out h.then ∙ sym (ap why_asked h.parts)

pub settle_fault : (client : ClientRules) (kept : Option Token) (part : List Pair) (out : Settled) → Reads (settle client kept) part out → settled_error out ≡ why_asked part
settle_fault client kept part out h = part_fault client.service (place_of client.endpoint) kept part out (settle_shape client.service (place_of client.endpoint) kept part out h)

-- ---- a fetch

by_fault : (e : Pair) (fault : Option ImdsError) → result_err (unless_fault e fault) ≡ fault
by_fault e None = refl
by_fault e (Some error) = refl

fetched_error : (e : Pair) → result_err (fetched e) ≡ entry_fault e
unfolding fetched
fetched_error e = by_fault e (entry_fault e)

pub fetch_fault : (client : ClientRules) (path token : List ℕ) (part : List Pair) (out : Result Pair ImdsError) → Reads (fetch client path token) part out → result_err out ≡ last_fault part
fetch_fault client path token part out h =
    let f = fetch_shape client.service (place_of client.endpoint) path token part out h in
    ap (λ r. result_err r) (sym f.is) ∙ fetched_error f.last ∙ sym (ap last_fault f.tried.parts ∙ last_end f.tried.before f.last)

-- ---- a get

text_error : (r : Result Pair ImdsError) → result_err (fetched_text r) ≡ result_err r
text_error (Ok e) = refl
text_error (Err error) = refl

-- what follows a settled token
with_text : (client : ClientRules) (path token : List ℕ) (first : Pair) (rest part : List Pair) (text : Given) → Reads (fetch_text client path token) part text → result_err text ≡ fault_after first (rest ++ part)
unfolding fetch_text
with_text client path token first rest part text h =
    let p = split_after (fetch client path token) (λ r. Done (fetched_text r)) part text h in
    let end = done_is (fetched_text p.middle) p.rest text p.then in
    let whole = nothing_after p.part p.rest part p.parts end.0 in
    let f = fetch_shape client.service (place_of client.endpoint) path token p.part p.middle p.first in
    let shape : rest ++ part ≡ (rest ++ f.tried.before) ++ f.last ∷ [] = ap (λ t. rest ++ t) (whole ∙ f.tried.parts) ∙ sym (append_assoc rest f.tried.before (f.last ∷ [])) in
    ap (λ r. result_err r) (sym end.1) ∙ text_error p.middle ∙ ap (λ r. result_err r) (sym f.is) ∙ fetched_error f.last
    ∙ sym (ap (fault_after first) shape ∙ sent_end first (rest ++ f.tried.before) f.last (get_request client.service.settings (place_of client.endpoint) path token) f.tried.asks)

settled_text : (client : ClientRules) (path : List ℕ) (first : Pair) (rest part : List Pair) (settled out : Settled) → settled_error settled ≡ fault_after first rest →
    Reads (with_token client path settled) part out → settled_error out ≡ fault_after first (rest ++ part)
settled_text client path first rest part (Ok token, kept) out e h =
    let p = split_after (fetch_text client path token) (λ text. Done (text, kept)) part out h in
    let end = done_is (p.middle, kept) p.rest out p.then in
    let whole = nothing_after p.part p.rest part p.parts end.0 in
    ap settled_error (sym end.1) ∙ with_text client path token first rest p.part p.middle p.first ∙ ap (λ t. fault_after first (rest ++ t)) (sym whole)
settled_text client path first rest part (Err error, kept) out e h =
    let end = done_is (Err error, kept) part out h in
    let whole = nothing_after rest part (rest ++ part) refl end.0 in
    ap settled_error (sym end.1) ∙ e ∙ ap (fault_after first) (sym whole)

asked_fault : (client : ClientRules) (kept : Option Token) (path : List ℕ) (part : List Pair) (out : Settled) → Reads (after (settle client kept) (with_token client path)) part out → settled_error out ≡ why_asked part
asked_fault client kept path part out h =
    let p = split_after (settle client kept) (with_token client path) part out h in
    let s = settle_shape client.service (place_of client.endpoint) kept p.part p.middle p.first in
    let e = settled_by client.service (place_of client.endpoint) kept (has_time_left kept (moment_of s.first.1)) s.first s.rest p.middle s.then in
    settled_text client path s.first s.rest p.rest p.middle out e p.then ∙ sym (ap why_asked (p.parts ∙ ap (λ t. t ++ p.rest) s.parts))

by_usable : (client : ClientRules) (kept : Option Token) (path : List ℕ) (fault : Option UnexpectedCause) (part : List Pair) (out : Settled) →
    Reads (unless_unusable fault (after (settle client kept) (with_token client path)) kept) part out → settled_error out ≡ option_or (option_map imds.Unexpected fault) (why_asked part)
by_usable client kept path None part out h = asked_fault client kept path part out h
by_usable client kept path (Some cause) part out h = let end = done_is (Err (imds.Unexpected cause), kept) part out h in ap settled_error (sym end.1)

pub get_fault : (client : ClientRules) (kept : Option Token) (path : List ℕ) (part : List Pair) (out : Settled) → Reads (get client kept path) part out → settled_error out ≡ why_no_text client path part
unfolding get
get_fault client kept path part out h = by_usable client kept path (why_unusable client.endpoint path) part out h
