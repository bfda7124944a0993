-- Where nothing stands in the way, a call gives credentials.
use lib.Utf8.{encode}
use Rattle.std.proofs.Common.{◌≡◌, ◌⊎◌, inl, inr, ℕ, List, [], ◌∷◌, ◌++◌, Bool, true, false, Option, Some, None, refl, sym, ap, ◌∙◌, subst, append-nil, append_assoc}
use Rattle.std.specs.Option.{option_or}
use Rattle.std.specs.Prelude.{Result, Ok, Err, IsOk, IfSome, is_ok, option_map, if◌then◌else◌}
use Rattle.std.specs.Result.{result_err}
use Rattle.std.specs.Str.{is_utf8, chars}
use Rattle.cfg_base.specs.Text.{characters}
use Rattle.cfg_types.specs.Keys.{Keys}
use Rattle.cfg_types.specs.declared.errors.CredentialsError.{CredentialsError}
use Rattle.cfg_types.specs.declared.errors.CredentialsError.TheVariants.{CredentialsNotLoaded}
use Rattle.cfg_types.specs.declared.errors.NotLoadedCause.TheVariants.{MetadataDisabled}
use Rattle.cfg_types.specs.declared.errors.imds.FailedToLoadToken.{FailedToLoadToken}
use Rattle.cfg_types.specs.declared.errors.imds.ImdsError.{ImdsError}
use Rattle.cfg_types.specs.declared.errors.imds.ImdsError.TheVariants as imds
use Rattle.cfg_types.specs.declared.errors.imds.UnexpectedCause.TheVariants as unexpected
use Rattle.cfg_types.specs.declared.request.Request.{Request}
use Rattle.cfg_world.specs.declared.ask.Question.{Question}
use Rattle.cfg_world.specs.declared.ask.Question.TheVariants.{Now, Send}
use Rattle.cfg_world.specs.Fits.{Pair}
use Rattle.cfg_world.specs.Inquiry as low
use Rattle.cfg_world.specs.Leaves.{moment_of}
use Rattle.cfg_imds.specs.declared.endpoint.Endpoint.{Endpoint}
use Rattle.cfg_imds.specs.Clients.{ClientRules, place_of, endpoint_fault, why_unusable, usable_error, settle, fetch}
use Rattle.cfg_imds.specs.Fetches.{entry_fault, entry_text, unless_fault as unless_faulty, fetched}
use Rattle.cfg_imds.specs.Paths.{is_path}
use Rattle.cfg_imds.specs.Requests.{Service, token_request, get_request}
use Rattle.cfg_imds.specs.SettledParts.{Renewed, SettledBy}
use Rattle.cfg_imds.specs.Settles.{Given, Settled, has_time_left, renewed, renewal}
use Rattle.cfg_imds.specs.Tokens.{Token, read_token}
use Rattle.cfg_imds.proofs.Pathing.{is_a_path}
use Rattle.cfg_imds.proofs.Shapes.{settle_shape, fetch_shape}
use Rattle.cfg_kept.specs.declared.place.Place.{Place}
use Rattle.cfg_kept.specs.Kinds.{Value}
use Rattle.cfg_kept.specs.KeptInquiry.{Gives, Reads, lift, onwards_if_ok}
use Rattle.cfg_kept.specs.MetadataHoldings.{token_holding}
use Rattle.cfg_kept.specs.RoleDocuments.{RoleKeys, role_document}
use Rattle.cfg_kept.proofs.Splits.{split_onwards, lowered}
use Rattle.cfg_providers.specs.CustomSources.{Answer}
use Rattle.cfg_imds_credentials.specs.Settings.{MetadataSetting}
use Rattle.cfg_imds_credentials.specs.Metadata.{unless_fault, token_and_text, metadata_get, listing_path, role_path, listed, listing, path_of_role, documented, document, dated, retrieves_at, retrieves, unless_disabled, settled, metadata}
use Rattle.cfg_imds_credentials.specs.Causes.{first_text, retrieved_in, AnswersBy}
use Rattle.cfg_world.specs.Repeats.{IsRepeated}
use Rattle.cfg_imds_credentials.specs.Valid.{IsOfUse, AreOfUse, IsDocument, IsListing, GivesRole, IsValid}
use Rattle.cfg_imds_credentials.proofs.Given.{given_is, whole_part}
use Rattle.cfg_imds_credentials.proofs.Gets.{token_settles}
use Rattle.cfg_imds_credentials.proofs.Reasons.{Shows, get_shows, Lists, listing_lists, dated_ok, settled_answers}

clash : {X : Type 0} → false ≡ true → X
clash h = absurd (differ h)
  where
    differ : false ≡ true → ⊥
    differ e = absurd cc

-- ---- the entries

pub rest_of_use : (part rest : List Pair) → AreOfUse (part ++ rest) → AreOfUse rest
rest_of_use [] rest h = h
rest_of_use (e ∷ part) rest h = rest_of_use part rest h.1

only_left : {A : Type 0} → A ⊎ ⊥ → A
only_left (inl x) = x
only_left (inr e) = absurd e

-- the last answer is of use: no entry follows it
last_of_use : (before : List Pair) (last : Pair) → AreOfUse (before ++ last ∷ []) → IsOfUse last.0 last []
last_of_use before last h = only_left (rest_of_use before (last ∷ []) h).0

now_is_sent : (request : Request) → Now ≡ Send request → ⊥
now_is_sent request h = absurd cc

not_again : (A : Type 0) (q : Question) (request : Request) (reading : Pair) → q ≡ Send request → reading.0 ≡ Now → A ⊎ IsRepeated q (reading ∷ []) → A
not_again A q request reading is asks (inl x) = x
not_again A q request reading is asks (inr again) = absurd (now_is_sent request (sym asks ∙ again ∙ is))

-- ---- a settle

read_ok : (r : Result Token FailedToLoadToken) → IsOk r → is_ok ((renewed r).0) ≡ true
read_ok (Ok token) h = refl
read_ok (Err e) h = clash h

renewal_ok : (reply reading : Pair) → IsOk (read_token reply reading) → is_ok ((renewal reply reading).0) ≡ true
unfolding renewal
renewal_ok reply reading h = read_ok (read_token reply reading) h

token_used : (s : Service) (endpoint : List ℕ) (reply reading : Pair) → reply.0 ≡ Send (token_request s.settings endpoint) → IsOfUse reply.0 reply (reading ∷ []) → IsOk (read_token reply reading)
token_used s endpoint reply reading is h = subst (λ q. IsOfUse q reply (reading ∷ [])) is h

renewed_ok : (s : Service) (endpoint : List ℕ) (part : List Pair) (out : Settled) → Renewed s endpoint part out → AreOfUse part → is_ok (out.0) ≡ true
renewed_ok s endpoint part out h uses =
    let t = h.tried in
    let shape : part ≡ t.before ++ h.reply ∷ h.reading ∷ [] = h.parts ∙ ap (λ p. p ++ h.reading ∷ []) t.parts ∙ append_assoc t.before (h.reply ∷ []) (h.reading ∷ []) in
    let at = (rest_of_use t.before (h.reply ∷ h.reading ∷ []) (subst AreOfUse shape uses)).0 in
    let used = not_again (IsOfUse h.reply.0 h.reply (h.reading ∷ [])) h.reply.0 (token_request s.settings endpoint) h.reading t.asks h.asks at in
    ap (λ o. is_ok (o.0)) (sym h.is) ∙ renewal_ok h.reply h.reading (token_used s endpoint h.reply h.reading t.asks used)

settled_ok : (s : Service) (endpoint : List ℕ) (kept : Option Token) (good : Bool) (part : List Pair) (out : Settled) → SettledBy s endpoint kept good part out → AreOfUse part → is_ok (out.0) ≡ true
settled_ok s endpoint kept true part out h uses = ap (λ o. is_ok (o.0)) (sym h.1)
settled_ok s endpoint kept false part out h uses = renewed_ok s endpoint part out h uses

settle_ok : (client : ClientRules) (kept : Option Token) (part : List Pair) (out : Settled) → low.Reads (settle client kept) part out → AreOfUse part → is_ok (out.0) ≡ true
settle_ok client kept part out h uses =
    let s = settle_shape client.service (place_of client.endpoint) kept part out h in
    settled_ok client.service (place_of client.endpoint) kept (has_time_left kept (moment_of s.first.1)) s.rest out s.then (subst AreOfUse s.parts uses).1

-- ---- a fetch

fine_ok : (e : Pair) (fault : Option ImdsError) → fault ≡ None → is_ok (unless_faulty e fault) ≡ true
fine_ok e None h = refl
fine_ok e (Some error) h = absurd cc

fetch_ok : (client : ClientRules) (path token : List ℕ) (part : List Pair) (out : Result Pair ImdsError) → low.Reads (fetch client path token) part out → AreOfUse part → is_ok out ≡ true
unfolding fetched
fetch_ok client path token part out h uses =
    let f = fetch_shape client.service (place_of client.endpoint) path token part out h in
    let last = last_of_use f.tried.before f.last (subst AreOfUse f.tried.parts uses) in
    let request = get_request client.service.settings (place_of client.endpoint) path token in
    ap is_ok (sym f.is) ∙ fine_ok f.last (entry_fault f.last) (subst (λ q. IsOfUse q f.last []) f.tried.asks last)

-- ---- a get

with_token_ok : (client : ClientRules) (path : List ℕ) (token : Given) (found : List Value) (part rest : List Pair) (out : Result Pair ImdsError) → (AreOfUse part → is_ok token ≡ true) →
    Reads (onwards_if_ok (λ token. lift (fetch client path token)) token) found rest out → AreOfUse (part ++ rest) → is_ok out ≡ true
with_token_ok client path (Ok token) found part rest out ok h uses = fetch_ok client path token rest out (lowered (fetch client path token) found rest out h).1 (rest_of_use part rest uses)
with_token_ok client path (Err e) found part rest out ok h uses =
    let g = given_is {R = Result Pair ImdsError} (Err e) out found rest h in
    clash (ok (subst AreOfUse (ap (λ r. part ++ r) g.1 ∙ append-nil part) uses))

asked_ok : (client : ClientRules) (place : Place) (path : List ℕ) (found : List Value) (part : List Pair) (out : Result Pair ImdsError) → Reads (token_and_text client place path) found part out → AreOfUse part → is_ok out ≡ true
unfolding token_and_text
asked_ok client place path found part out h uses =
    let s = split_onwards (token_holding client place) (onwards_if_ok (λ token. lift (fetch client path token))) found part out h in
    let t = token_settles client place s.found_first s.part s.middle s.first in
    with_token_ok client path s.middle s.found_then s.part s.rest out (settle_ok client t.kept s.part (s.middle, t.left) t.reads) s.then (subst AreOfUse s.parts uses)

get_by : (client : ClientRules) (place : Place) (path : List ℕ) (fault : Option ImdsError) (found : List Value) (part : List Pair) (out : Result Pair ImdsError) → fault ≡ None →
    Reads (unless_fault fault (token_and_text client place path)) found part out → AreOfUse part → is_ok out ≡ true
get_by client place path (Some e) found part out is h uses = absurd cc
get_by client place path None found part out is h uses = asked_ok client place path found part out h uses

no_fault : (endpoint : Endpoint) (path : List ℕ) → endpoint_fault endpoint ≡ None → is_path path ≡ true → why_unusable endpoint path ≡ None
unfolding why_unusable
no_fault endpoint path fine is = ap (λ b. option_or (if b then None else Some (unexpected.Path (characters path))) (endpoint_fault endpoint)) is ∙ fine

-- a get of a path that may be asked for
get_ok : (client : ClientRules) (place : Place) (path : List ℕ) (found : List Value) (part : List Pair) (out : Result Pair ImdsError) → endpoint_fault client.endpoint ≡ None → is_path path ≡ true →
    Reads (metadata_get client place path) found part out → AreOfUse part → is_ok out ≡ true
unfolding metadata_get
get_ok client place path found part out fine is h uses = get_by client place path (usable_error client path) found part out (ap (option_map imds.Unexpected) (no_fault client.endpoint path fine is)) h uses

-- ---- the document

said_ok : (said : Result RoleKeys CredentialsError) (text : Pair) → role_document text ≡ said → IsOk (role_document text) → is_ok said ≡ true
said_ok (Ok role) text is h = refl
said_ok (Err e) text is h = clash (subst IsOk is h)

documented_ok : (client : ClientRules) (path : List ℕ) (got : Result Pair ImdsError) (part : List Pair) → is_ok got ≡ true → Shows client path got part → IsDocument (first_text part) → is_ok (documented got) ≡ true
unfolding documented
documented_ok client path (Ok text) part ok shows is =
    said_ok (role_document text) text refl (subst IsDocument (ap first_text (sym (append-nil part)) ∙ shows []) is)
documented_ok client path (Err e) part ok shows is = clash ok

document_ok : (client : ClientRules) (place : Place) (path : List ℕ) (found : List Value) (part : List Pair) (out : Result RoleKeys CredentialsError) → endpoint_fault client.endpoint ≡ None → is_path path ≡ true →
    IsDocument (first_text part) → Reads (document client place path) found part out → AreOfUse part → is_ok out ≡ true
unfolding document
document_ok client place path found part out fine is gives h uses =
    let s = split_onwards (metadata_get client place path) (λ got. Gives (documented got)) found part out h in
    let g = given_is (documented s.middle) out s.found_then s.rest s.then in
    let whole = whole_part part s.part s.rest s.parts g.1 in
    let ok = get_ok client place path s.found_first s.part s.middle fine is s.first (subst AreOfUse whole uses) in
    ap is_ok (sym g.2) ∙ documented_ok client path s.middle s.part ok (get_shows client place path s.found_first s.part s.middle s.first) (subst (λ p. IsDocument (first_text p)) whole gives)

no_error : (out : Answer) → result_err out ≡ None → is_ok out ≡ true
no_error (Ok keys) h = refl
no_error (Err e) h = absurd cc

dates_ok : (said : Result RoleKeys CredentialsError) (found : List Value) (part rest : List Pair) (out : Answer) → (rest ≡ [] → is_ok said ≡ true) → Reads (onwards_if_ok (λ role. lift (dated role)) said) found rest out → is_ok out ≡ true
dates_ok (Ok role) found part rest out ok h = no_error out (dated_ok role rest out (lowered (dated role) found rest out h).1)
dates_ok (Err e) found part rest out ok h = clash (ok (given_is {R = Answer} (Err e) out found rest h).1)

role_ok : (client : ClientRules) (place : Place) (path : List ℕ) (found : List Value) (part : List Pair) (out : Answer) → endpoint_fault client.endpoint ≡ None → is_path path ≡ true →
    IsDocument (first_text part) → Reads (retrieves_at client place path) found part out → AreOfUse part → is_ok out ≡ true
unfolding retrieves_at
role_ok client place path found part out fine is gives h uses =
    let s = split_onwards (document client place path) (onwards_if_ok (λ role. lift (dated role))) found part out h in
    dates_ok s.middle s.found_then s.part s.rest out
    (λ none.
    let whole = whole_part part s.part s.rest s.parts none in
    document_ok client place path s.found_first s.part s.middle fine is (subst (λ p. IsDocument (first_text p)) whole gives) s.first (subst AreOfUse whole uses)) s.then

-- ---- the listing

listing_is_path : is_path listing_path ≡ true
unfolding is_path is_utf8 chars encode
listing_is_path = refl

listed_ok : (got : Result Pair ImdsError) → is_ok got ≡ true → is_ok (listed got) ≡ true
unfolding listed
listed_ok (Ok text) h = refl
listed_ok (Err e) h = h

listing_ok : (client : ClientRules) (place : Place) (found : List Value) (part : List Pair) (out : Result (List ℕ) CredentialsError) → endpoint_fault client.endpoint ≡ None →
    Reads (listing client place) found part out → AreOfUse part → is_ok out ≡ true
unfolding listing
listing_ok client place found part out fine h uses =
    let s = split_onwards (metadata_get client place listing_path) (λ got. Gives (listed got)) found part out h in
    let g = given_is (listed s.middle) out s.found_then s.rest s.then in
    ap is_ok (sym g.2) ∙ listed_ok s.middle (get_ok client place listing_path s.found_first s.part s.middle fine listing_is_path s.first (subst AreOfUse (whole_part part s.part s.rest s.parts g.1) uses))

behind_listing : (client : ClientRules) (place : Place) (path : Result (List ℕ) CredentialsError) (found : List Value) (part rest : List Pair) (out : Answer) → endpoint_fault client.endpoint ≡ None → (rest ≡ [] → is_ok path ≡ true) →
    Lists client path part → GivesRole None (part ++ rest) → Reads (onwards_if_ok (retrieves_at client place) path) found rest out → AreOfUse (part ++ rest) → is_ok out ≡ true
behind_listing client place (Ok path) found part rest out fine ok lists gives h uses =
    let l = subst (λ t. IfSome t IsListing) (lists.2 rest) gives in
    role_ok client place path found rest out fine (ap is_path lists.1 ∙ is_a_path (role_path (entry_text lists.0)) l.path) l.document h (rest_of_use part rest uses)
behind_listing client place (Err e) found part rest out fine ok lists gives h uses = clash (ok (given_is {R = Answer} (Err e) out found rest h).1)

-- ---- the whole

retrieves_ok : (client : ClientRules) (place : Place) (role : Option (List ℕ)) (found : List Value) (part : List Pair) (out : Answer) → endpoint_fault client.endpoint ≡ None → GivesRole role part →
    Reads (retrieves client place role) found part out → AreOfUse part → is_ok out ≡ true
unfolding retrieves path_of_role
retrieves_ok client place (Some role) found part out fine gives h uses = role_ok client place (role_path role) found part out fine (is_a_path (role_path role) gives.0) gives.1 h uses
retrieves_ok client place None found part out fine gives h uses =
    let s = split_onwards (listing client place) (onwards_if_ok (retrieves_at client place)) found part out h in
    behind_listing client place s.middle s.found_then s.part s.rest out fine
    (λ none. listing_ok client place s.found_first s.part s.middle fine s.first (subst AreOfUse (whole_part part s.part s.rest s.parts none) uses))
    (listing_lists client place s.found_first s.part s.middle s.first) (subst (GivesRole None) s.parts gives) s.then (subst AreOfUse s.parts uses)

enabled_ok : (b : Bool) (s : MetadataSetting) (found : List Value) (part : List Pair) (out : Answer) → b ≡ false → endpoint_fault s.client.endpoint ≡ None → GivesRole s.role part → AreOfUse part →
    Reads (if b then Gives (Err (CredentialsNotLoaded MetadataDisabled)) else retrieves s.client s.place s.role) found part out → is_ok out ≡ true
enabled_ok true s found part out is fine gives uses h = clash (sym is)
enabled_ok false s found part out is fine gives uses h = retrieves_ok s.client s.place s.role found part out fine gives h uses

by_middle : (given out : Answer) (kept : Option Keys) → is_ok given ≡ true → AnswersBy (result_err given) kept out → is_ok out ≡ true
by_middle (Ok keys) (Ok more) kept ok a = refl
by_middle (Ok keys) (Err e) kept ok a = clash a
by_middle (Err e) out kept ok a = clash ok

pub valid_gives : (s : MetadataSetting) (found : List Value) (part : List Pair) (out : Answer) → Reads (metadata s) found part out → IsValid s part → is_ok out ≡ true
unfolding metadata unless_disabled
valid_gives s found part out h valid =
    let p = split_onwards (unless_disabled s) (settled s.place) found part out h in
    let a = settled_answers s.place p.middle p.found_first p.found_then p.rest out p.then in
    let whole = whole_part part p.part p.rest p.parts a.0 in
    by_middle p.middle out (retrieved_in (p.found_first ++ p.found_then))
    (enabled_ok s.disabled s p.found_first p.part p.middle valid.enabled valid.endpoint (subst (GivesRole s.role) whole valid.role) (subst AreOfUse whole valid.answers) p.first) a.1
