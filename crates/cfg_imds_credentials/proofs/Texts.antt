-- The texts that a get shows in its part: none, or its last entry alone.
use Rattle.std.proofs.Common.{◌≡◌, ℕ, List, [], ◌∷◌, ◌++◌, Bool, true, false, Option, Some, None, refl, sym, ap, ◌∙◌, subst, append_assoc}
use Rattle.std.specs.Prelude.{◌&&◌, is_none, Result, Ok, Err, if◌then◌else◌}
use Rattle.std.specs.List.{AllByRecursion}
use Rattle.std.specs.Str.{is_utf8}
use Rattle.cfg_types.specs.declared.errors.imds.ImdsError.{ImdsError}
use Rattle.cfg_types.specs.declared.reply.Reply.TheVariants as reply
use Rattle.cfg_types.specs.declared.reply.http.HttpReply.{HttpReply}
use Rattle.cfg_types.specs.declared.request.Request.{Request}
use Rattle.cfg_world.specs.declared.ask.Question.{Question}
use Rattle.cfg_world.specs.declared.ask.Question.TheVariants.{Now, Send}
use Rattle.cfg_world.specs.declared.ask.Answer.{Answer}
use Rattle.cfg_world.specs.declared.ask.Answer.TheVariants as answer
use Rattle.cfg_world.specs.Fits.{Pair}
use Rattle.cfg_world.specs.Inquiry as low
use Rattle.cfg_world.specs.Leaves.{moment_of}
use Rattle.cfg_exchange.specs.Classifiers.{Repeats, unless_fine, repeats_reply, is_repeated}
use Rattle.cfg_exchange.specs.Readings.{is_success, fine_if, text_reading}
use Rattle.cfg_exchange.specs.declared.reading.Reading.TheVariants.{Refused}
use Rattle.cfg_exchange.specs.declared.reading.ReplyKind.TheVariants as kind
use Rattle.cfg_imds.specs.Clients.{ClientRules, place_of, settle, fetch, usable_error}
use Rattle.cfg_imds.specs.Fetches.{is_get, text_fault, reply_fault, entry_fault, unless_fault as unless_faulty, fetched}
use Rattle.cfg_imds.specs.Requests.{Service, token_request, get_request}
use Rattle.cfg_imds.specs.SettledParts.{SettledBy}
use Rattle.cfg_imds.specs.Settles.{Given, Settled, has_time_left}
use Rattle.cfg_imds.specs.Tokens.{Token}
use Rattle.cfg_json.specs.Reading.{utf8_of}
use Rattle.cfg_imds.proofs.Shapes.{settle_shape, fetch_shape}
use Rattle.cfg_kept.specs.declared.place.Place.{Place}
use Rattle.cfg_kept.specs.Kinds.{Value}
use Rattle.cfg_kept.specs.KeptInquiry.{Reads, lift, onwards_if_ok}
use Rattle.cfg_kept.specs.MetadataHoldings.{token_holding}
use Rattle.cfg_kept.proofs.Splits.{split_onwards, lowered}
use Rattle.cfg_imds_credentials.specs.Causes.{is_text, first_text}
use Rattle.cfg_imds_credentials.specs.Metadata.{unless_fault, token_and_text, metadata_get}
use Rattle.cfg_imds_credentials.proofs.Given.{given_is}
use Rattle.cfg_imds_credentials.proofs.Gets.{token_settles}

-- no entry is a text that was got
abbrev pub Silent : List Pair → Type 0
Silent part = AllByRecursion (λ e. is_text e ≡ false) part

pub silent_both : (one other : List Pair) → Silent one → Silent other → Silent (one ++ other)
silent_both [] other h k = k
silent_both (e ∷ one) other h k = (h.0, silent_both one other h.1 k)

skipped : (e : Pair) (part : List Pair) → is_text e ≡ false → first_text (e ∷ part) ≡ first_text part
skipped e part h = ap (λ b. if b then Some (e, part) else first_text part) h

-- silent entries are passed over
pub silent_skips : (part rest : List Pair) → Silent part → first_text (part ++ rest) ≡ first_text rest
silent_skips [] rest h = refl
silent_skips (e ∷ part) rest h = skipped e (part ++ rest) h.0 ∙ silent_skips part rest h.1

pub silent_none : (part : List Pair) → Silent part → first_text part ≡ None
silent_none [] h = refl
silent_none (e ∷ part) h = skipped e part h.0 ∙ silent_none part h.1

-- The last entry is the text; or there is none.
abbrev pub GotText : Result Pair ImdsError → List Pair → Type 0
GotText (Ok text) part = (before : List Pair) × (part ≡ before ++ text ∷ []) × Silent before × (is_text text ≡ true)
GotText (Err e) part = Silent part

taken : (text : Pair) (rest : List Pair) → is_text text ≡ true → first_text (text ∷ rest) ≡ Some (text, rest)
taken text rest h = ap (λ b. if b then Some (text, rest) else first_text rest) h

-- the first text of a get that gave one, whatever follows it
pub got_first : (text : Pair) (part rest : List Pair) → GotText (Ok text) part → first_text (part ++ rest) ≡ Some (text, rest)
got_first text part rest g =
    ap (λ p. first_text (p ++ rest)) g.1 ∙ ap first_text (append_assoc g.0 (text ∷ []) rest) ∙ silent_skips g.0 (text ∷ rest) g.2 ∙ taken text rest g.3

-- ---- a settle shows none

no_get : (e : Pair) (q : Question) → e.0 ≡ q → is_get q ≡ false → is_text e ≡ false
no_get e q is other = ap (λ b. b && is_none (entry_fault e)) (ap is_get is ∙ other)

asking_token : (s : Service) (endpoint : List ℕ) (repeats : Answer → Bool) (part : List Pair) →
    AllByRecursion (λ e. (e.0 ≡ Send (token_request s.settings endpoint)) × (repeats e.1 ≡ true)) part → Silent part
asking_token s endpoint repeats [] h = tt
asking_token s endpoint repeats (e ∷ part) h = (no_get e (Send (token_request s.settings endpoint)) h.0.0 refl, asking_token s endpoint repeats part h.1)

settled_silent : (s : Service) (endpoint : List ℕ) (kept : Option Token) (good : Bool) (part : List Pair) (out : Settled) → SettledBy s endpoint kept good part out → Silent part
settled_silent s endpoint kept true part out h = subst Silent (sym h.0) tt
settled_silent s endpoint kept false part out h =
    let t = h.tried in
    subst Silent (sym h.parts)
    (silent_both h.tokens (h.reading ∷ [])
    (subst Silent (sym t.parts) (silent_both t.before (h.reply ∷ []) (asking_token s endpoint _ t.before t.each) (no_get h.reply (Send (token_request s.settings endpoint)) t.asks refl, tt)))
    (no_get h.reading Now h.asks refl, tt))

pub settle_silent : (client : ClientRules) (kept : Option Token) (part : List Pair) (out : Settled) → low.Reads (settle client kept) part out → Silent part
settle_silent client kept part out h =
    let s = settle_shape client.service (place_of client.endpoint) kept part out h in
    subst Silent (sym s.parts)
    (no_get s.first Now s.asks refl, settled_silent client.service (place_of client.endpoint) kept (has_time_left kept (moment_of s.first.1)) s.rest out s.then)

-- ---- what is repeated is no text

clash : {X : Type 0} → false ≡ true → X
clash h = absurd (differ h)
  where
    differ : false ≡ true → ⊥
    differ e = absurd cc

by_tests : (success text : Bool) (body : List ℕ) (fault : ImdsError) (r : Bool) → unless_fine (if success then fine_if text else Refused) r ≡ true →
    is_none (if success then text_fault (if text then Some body else None) else Some fault) ≡ false
by_tests true true body fault r h = clash h
by_tests true false body fault r h = refl
by_tests false text body fault r h = refl

repeated_reply : (repeats : Repeats) (given : HttpReply) → repeats_reply kind.MetadataText repeats (Some given) ≡ true → is_none (reply_fault given) ≡ false
unfolding reply_fault text_reading utf8_of
repeated_reply repeats given h = by_tests (is_success given.status) (is_utf8 given.body) given.body _ _ h

repeated_faulty : (repeats : Repeats) (q : Question) (a : Answer) → is_repeated kind.MetadataText repeats a ≡ true → is_none (entry_fault (q, a)) ≡ false
unfolding entry_fault
repeated_faulty repeats q (answer.Replied (reply.Http given)) h = repeated_reply repeats given h
repeated_faulty repeats q (answer.Replied (reply.Sts given)) h = clash h
repeated_faulty repeats q (answer.Replied (reply.Role given)) h = clash h
repeated_faulty repeats q (answer.Replied (reply.Token given)) h = clash h
repeated_faulty repeats q (answer.Replied (reply.SignIn given)) h = clash h
repeated_faulty repeats q (answer.Replied (reply.Refused refusal)) h = clash h
repeated_faulty repeats q (answer.Failed failure) h = refl
repeated_faulty repeats q (answer.Moment m) h = clash h
repeated_faulty repeats q (answer.Jitter n) h = clash h
repeated_faulty repeats q (answer.Contents bytes) h = clash h
repeated_faulty repeats q answer.Written h = clash h
repeated_faulty repeats q (answer.Finished finished) h = clash h
repeated_faulty repeats q (answer.Addresses addresses) h = clash h

faulty : (e : Pair) → is_none (entry_fault e) ≡ false → is_text e ≡ false
faulty e h = by_get (is_get e.0) (is_none (entry_fault e)) h
  where
    by_get : (g n : Bool) → n ≡ false → (g && n) ≡ false
    by_get true n h = h
    by_get false n h = refl

asking_path : (repeats : Repeats) (q : Question) (part : List Pair) → AllByRecursion (λ e. (e.0 ≡ q) × (is_repeated kind.MetadataText repeats e.1 ≡ true)) part → Silent part
asking_path repeats q [] h = tt
asking_path repeats q (e ∷ part) h = (faulty e (repeated_faulty repeats e.0 e.1 h.0.1), asking_path repeats q part h.1)

-- ---- a fetch

is_the_text : (e : Pair) (request : Request) → e.0 ≡ Send request → is_get (Send request) ≡ true → entry_fault e ≡ None → is_text e ≡ true
is_the_text e request is get fine = ap (λ b. b && is_none (entry_fault e)) (ap is_get is ∙ get) ∙ ap is_none fine

fetched_text_by : (before : List Pair) (last : Pair) (request : Request) (part : List Pair) (out : Result Pair ImdsError) (fault : Option ImdsError) → part ≡ before ++ last ∷ [] → Silent before →
    last.0 ≡ Send request → is_get (Send request) ≡ true → entry_fault last ≡ fault → unless_faulty last fault ≡ out → GotText out part
fetched_text_by before last request part out None parts silent is get fine h =
    subst (λ o. GotText o part) h (before, parts, silent, is_the_text last request is get fine)
fetched_text_by before last request part out (Some error) parts silent is get fine h =
    subst (λ o. GotText o part) h (subst Silent (sym parts) (silent_both before (last ∷ []) silent (faulty last (ap is_none fine), tt)))

pub fetch_texts : (client : ClientRules) (path token : List ℕ) (part : List Pair) (out : Result Pair ImdsError) → low.Reads (fetch client path token) part out → GotText out part
unfolding fetched
fetch_texts client path token part out h =
    let f = fetch_shape client.service (place_of client.endpoint) path token part out h in
    let request = get_request client.service.settings (place_of client.endpoint) path token in
    fetched_text_by f.tried.before f.last request part out (entry_fault f.last) f.tried.parts (asking_path client.service.repeats (Send request) f.tried.before f.tried.each) f.tried.asks refl refl f.is

-- ---- a get

behind_silent : (front part : List Pair) (out : Result Pair ImdsError) → Silent front → GotText out part → GotText out (front ++ part)
behind_silent front part (Ok text) h g = (front ++ g.0, ap (λ p. front ++ p) g.1 ∙ sym (append_assoc front g.0 (text ∷ [])), silent_both front g.0 h g.2, g.3)
behind_silent front part (Err e) h g = silent_both front part h g

with_token_texts : (client : ClientRules) (path : List ℕ) (token : Given) (found : List Value) (part : List Pair) (out : Result Pair ImdsError) →
    Reads (onwards_if_ok (λ token. lift (fetch client path token)) token) found part out → GotText out part
with_token_texts client path (Ok token) found part out h = fetch_texts client path token part out (lowered (fetch client path token) found part out h).1
with_token_texts client path (Err error) found part out h =
    let g = given_is {R = Result Pair ImdsError} (Err error) out found part h in
    subst (λ o. GotText o part) g.2 (subst Silent (sym g.1) tt)

asked_texts : (client : ClientRules) (place : Place) (path : List ℕ) (found : List Value) (part : List Pair) (out : Result Pair ImdsError) → Reads (token_and_text client place path) found part out → GotText out part
unfolding token_and_text
asked_texts client place path found part out h =
    let s = split_onwards (token_holding client place) (onwards_if_ok (λ token. lift (fetch client path token))) found part out h in
    let t = token_settles client place s.found_first s.part s.middle s.first in
    subst (GotText out) (sym s.parts)
    (behind_silent s.part s.rest out (settle_silent client t.kept s.part (s.middle, t.left) t.reads) (with_token_texts client path s.middle s.found_then s.rest out s.then))

texts_by : (client : ClientRules) (place : Place) (path : List ℕ) (fault : Option ImdsError) (found : List Value) (part : List Pair) (out : Result Pair ImdsError) →
    Reads (unless_fault fault (token_and_text client place path)) found part out → GotText out part
texts_by client place path (Some error) found part out h =
    let g = given_is {R = Result Pair ImdsError} (Err error) out found part h in
    subst (λ o. GotText o part) g.2 (subst Silent (sym g.1) tt)
texts_by client place path None found part out h = asked_texts client place path found part out h

pub get_texts : (client : ClientRules) (place : Place) (path : List ℕ) (found : List Value) (part : List Pair) (out : Result Pair ImdsError) → Reads (metadata_get client place path) found part out → GotText out part
unfolding metadata_get
get_texts client place path found part out h = texts_by client place path (usable_error client path) found part out h
