-- Why a call gives no keys, over its part.
use Rattle.std.proofs.Common.{◌≡◌, ℕ, List, [], ◌∷◌, ◌++◌, Bool, true, false, Option, Some, None, refl, sym, ap, ◌∙◌, subst, append-nil}
use Rattle.std.specs.Prelude.{Result, Ok, Err, IsOk, option_map, if◌then◌else◌}
use Rattle.std.specs.Result.{result_err}
use Rattle.cfg_types.specs.declared.errors.CredentialsError.{CredentialsError}
use Rattle.cfg_types.specs.declared.errors.CredentialsError.TheVariants.{CredentialsNotLoaded}
use Rattle.cfg_types.specs.declared.errors.NotLoadedCause.TheVariants.{MetadataDisabled}
use Rattle.cfg_types.specs.declared.errors.imds.ImdsError.{ImdsError}
use Rattle.cfg_world.specs.declared.ask.Question.TheVariants.{Jitter, Now}
use Rattle.cfg_world.specs.Fits.{Pair}
use Rattle.cfg_world.specs.Inquiry as low
use Rattle.cfg_world.specs.Inquiry.{Done}
use Rattle.cfg_world.specs.Leaves.{moment_of}
use Rattle.cfg_exchange.specs.Attempts.{asked}
use Rattle.cfg_imds.specs.Causes.{why_no_text}
use Rattle.cfg_imds.specs.Clients.{ClientRules}
use Rattle.cfg_imds.specs.Fetches.{entry_text}
use Rattle.cfg_kept.specs.declared.place.Place.{Place}
use Rattle.cfg_kept.specs.Kinds.{Value, keys_in}
use Rattle.cfg_kept.specs.KeptInquiry.{Gives, Reads, lift, onwards_if_ok}
use Rattle.cfg_kept.specs.Retrieved.{is_due}
use Rattle.cfg_kept.specs.RoleDocuments.{RoleKeys, role_document}
use Rattle.cfg_kept.proofs.Splits.{split_onwards, lowered}
use Rattle.cfg_providers.specs.CustomSources.{Answer}
use Rattle.cfg_imds_credentials.specs.Settings.{MetadataSetting}
use Rattle.cfg_imds_credentials.specs.Metadata.{metadata_get, listing_path, role_path, get_error, listing_error, listed, listing, path_of_role, documented, document, dated_keys, jittered, extended, dated, retrieves_at, retrieves, unless_disabled, just_read, or_found, settled, metadata}
use Rattle.cfg_imds_credentials.specs.Causes.{first_text, why_role_by, why_role, why_listed_by, why_listed, why_by_role, why_nothing, retrieved_in, AnswersBy, CauseMetadata}
use Rattle.cfg_imds_credentials.proofs.Given.{given_is, whole_part}
use Rattle.cfg_imds_credentials.proofs.Gets.{get_cause}
use Rattle.cfg_imds_credentials.proofs.Texts.{GotText, silent_none, got_first, get_texts}

abbrev error_of : {T : Type 0} → CredentialsError → Result T CredentialsError
error_of e = Err e

-- ---- what a get shows

-- It shows its text, whatever follows; or no text and its error.
abbrev pub Shows : ClientRules → List ℕ → Result Pair ImdsError → List Pair → Type 0
Shows client path (Ok text) part = (rest : List Pair) → first_text (part ++ rest) ≡ Some (text, rest)
Shows client path (Err e) part = (first_text part ≡ None) × (why_no_text client path part ≡ Some e)

shows_by : (client : ClientRules) (path : List ℕ) (out : Result Pair ImdsError) (part : List Pair) → GotText out part → result_err out ≡ why_no_text client path part → Shows client path out part
shows_by client path (Ok text) part g c = λ rest. got_first text part rest g
shows_by client path (Err e) part g c = (silent_none part g, sym c)

pub get_shows : (client : ClientRules) (place : Place) (path : List ℕ) (found : List Value) (part : List Pair) (out : Result Pair ImdsError) → Reads (metadata_get client place path) found part out → Shows client path out part
get_shows client place path found part out h = shows_by client path out part (get_texts client place path found part out h) (get_cause client place path found part out h)

-- ---- the document

-- The role gives keys, whatever follows; or the error that its part shows.
abbrev pub Says : ClientRules → List ℕ → Result RoleKeys CredentialsError → List Pair → Type 0
Says client path (Ok role) part = (rest : List Pair) → why_role client path (part ++ rest) ≡ None
Says client path (Err e) part = why_role client path part ≡ Some e

text_says : (client : ClientRules) (path : List ℕ) (text : Pair) (said : Result RoleKeys CredentialsError) (part : List Pair) →
    ((rest : List Pair) → first_text (part ++ rest) ≡ Some (text, rest)) → role_document text ≡ said → Says client path said part
text_says client path text (Ok role) part shows is = λ rest. ap (why_role_by client path (part ++ rest)) (shows rest) ∙ ap result_err is
text_says client path text (Err e) part shows is =
    ap (why_role_by client path part) (ap first_text (sym (append-nil part)) ∙ shows []) ∙ ap result_err is

got_says : (client : ClientRules) (path : List ℕ) (got : Result Pair ImdsError) (part : List Pair) → Shows client path got part → Says client path (documented got) part
unfolding documented
got_says client path (Ok text) part shows = text_says client path text (role_document text) part shows refl
got_says client path (Err e) part shows = ap (why_role_by client path part) shows.0 ∙ ap (option_map get_error) shows.1

pub document_says : (client : ClientRules) (place : Place) (path : List ℕ) (found : List Value) (part : List Pair) (out : Result RoleKeys CredentialsError) → Reads (document client place path) found part out → Says client path out part
unfolding document
document_says client place path found part out h =
    let s = split_onwards (metadata_get client place path) (λ got. Gives (documented got)) found part out h in
    let g = given_is (documented s.middle) out s.found_then s.rest s.then in
    subst (λ o. Says client path o part) g.2
    (subst (Says client path (documented s.middle)) (sym (whole_part part s.part s.rest s.parts g.1)) (got_says client path s.middle s.part (get_shows client place path s.found_first s.part s.middle s.first)))

-- ---- until when its keys are good

done_ok : (said out : Answer) (part : List Pair) → result_err said ≡ None → low.Reads (Done said) part out → result_err out ≡ None
done_ok said out [] ok h = ap result_err (sym h) ∙ ok
done_ok said out (e ∷ part) ok h = absurd h

keys_ok : (role : RoleKeys) (reading : Pair) (jitter : Option Pair) → result_err (dated_keys role reading jitter) ≡ None
unfolding dated_keys
keys_ok role reading jitter = refl

jittered_ok : (role : RoleKeys) (reading : Pair) (part : List Pair) (out : Answer) → low.Reads (jittered role reading) part out → result_err out ≡ None
unfolding jittered asked
jittered_ok role reading [] out h = absurd h
jittered_ok role reading (e ∷ part) out h = done_ok (dated_keys role reading (Some (Jitter, e.1))) out part (keys_ok role reading (Some (Jitter, e.1))) h.1

extended_ok : (b : Bool) (role : RoleKeys) (reading : Pair) (part : List Pair) (out : Answer) → low.Reads (if b then jittered role reading else Done (dated_keys role reading None)) part out → result_err out ≡ None
extended_ok true role reading part out h = jittered_ok role reading part out h
extended_ok false role reading part out h = done_ok (dated_keys role reading None) out part (keys_ok role reading None) h

pub dated_ok : (role : RoleKeys) (part : List Pair) (out : Answer) → low.Reads (dated role) part out → result_err out ≡ None
unfolding dated extended asked
dated_ok role [] out h = absurd h
dated_ok role (e ∷ part) out h = extended_ok (is_due role.expiry (moment_of e.1)) role (Now, e.1) part out h.1

-- ---- the role at a path

dates_say : (client : ClientRules) (path : List ℕ) (said : Result RoleKeys CredentialsError) (found : List Value) (part rest : List Pair) (out : Answer) → Says client path said part →
    Reads (onwards_if_ok (λ role. lift (dated role)) said) found rest out → why_role client path (part ++ rest) ≡ result_err out
dates_say client path (Ok role) found part rest out says h = says rest ∙ sym (dated_ok role rest out (lowered (dated role) found rest out h).1)
dates_say client path (Err e) found part rest out says h =
    let g = given_is {R = Answer} (Err e) out found rest h in
    ap (why_role client path) (ap (λ r. part ++ r) g.1 ∙ append-nil part) ∙ says ∙ ap result_err g.2

pub role_cause : (client : ClientRules) (place : Place) (path : List ℕ) (found : List Value) (part : List Pair) (out : Answer) → Reads (retrieves_at client place path) found part out → why_role client path part ≡ result_err out
unfolding retrieves_at
role_cause client place path found part out h =
    let s = split_onwards (document client place path) (onwards_if_ok (λ role. lift (dated role))) found part out h in
    ap (why_role client path) s.parts ∙ dates_say client path s.middle s.found_then s.part s.rest out (document_says client place path s.found_first s.part s.middle s.first) s.then

-- ---- the path of the role

-- The listing shows the role, whatever follows; or the error that its part shows.
abbrev pub Lists : ClientRules → Result (List ℕ) CredentialsError → List Pair → Type 0
Lists client (Ok path) part = (text : Pair) × (path ≡ role_path (entry_text text)) × ((rest : List Pair) → first_text (part ++ rest) ≡ Some (text, rest))
Lists client (Err e) part = why_listed client part ≡ Some e

got_lists : (client : ClientRules) (got : Result Pair ImdsError) (part : List Pair) → Shows client listing_path got part → Lists client (listed got) part
unfolding listed
got_lists client (Ok text) part shows = (text, refl, shows)
got_lists client (Err e) part shows = ap (why_listed_by client part) shows.0 ∙ ap (option_map listing_error) shows.1

pub listing_lists : (client : ClientRules) (place : Place) (found : List Value) (part : List Pair) (out : Result (List ℕ) CredentialsError) → Reads (listing client place) found part out → Lists client out part
unfolding listing
listing_lists client place found part out h =
    let s = split_onwards (metadata_get client place listing_path) (λ got. Gives (listed got)) found part out h in
    let g = given_is (listed s.middle) out s.found_then s.rest s.then in
    subst (λ o. Lists client o part) g.2
    (subst (Lists client (listed s.middle)) (sym (whole_part part s.part s.rest s.parts g.1)) (got_lists client s.middle s.part (get_shows client place listing_path s.found_first s.part s.middle s.first)))

-- ---- the role

listed_cause : (client : ClientRules) (place : Place) (path : Result (List ℕ) CredentialsError) (found : List Value) (part rest : List Pair) (out : Answer) → Lists client path part →
    Reads (onwards_if_ok (retrieves_at client place) path) found rest out → why_listed client (part ++ rest) ≡ result_err out
listed_cause client place (Ok path) found part rest out lists h =
    ap (why_listed_by client (part ++ rest)) (lists.2 rest) ∙ ap (λ p. why_role client p rest) (sym lists.1) ∙ role_cause client place path found rest out h
listed_cause client place (Err e) found part rest out lists h =
    let g = given_is {R = Answer} (Err e) out found rest h in
    ap (why_listed client) (ap (λ r. part ++ r) g.1 ∙ append-nil part) ∙ lists ∙ ap result_err g.2

pub retrieves_cause : (client : ClientRules) (place : Place) (role : Option (List ℕ)) (found : List Value) (part : List Pair) (out : Answer) → Reads (retrieves client place role) found part out →
    why_by_role client role part ≡ result_err out
unfolding retrieves path_of_role
retrieves_cause client place (Some role) found part out h = role_cause client place (role_path role) found part out h
retrieves_cause client place None found part out h =
    let s = split_onwards (listing client place) (onwards_if_ok (retrieves_at client place)) found part out h in
    ap (why_listed client) s.parts ∙ listed_cause client place s.middle s.found_then s.part s.rest out (listing_lists client place s.found_first s.part s.middle s.first) s.then

disabled_cause : (b : Bool) (s : MetadataSetting) (found : List Value) (part : List Pair) (out : Answer) → Reads (if b then Gives (Err (CredentialsNotLoaded MetadataDisabled)) else retrieves s.client s.place s.role) found part out →
    (if b then Some (CredentialsNotLoaded MetadataDisabled) else why_by_role s.client s.role part) ≡ result_err out
disabled_cause true s found part out h = let g = given_is {R = Answer} (Err (CredentialsNotLoaded MetadataDisabled)) out found part h in ap result_err g.2
disabled_cause false s found part out h = retrieves_cause s.client s.place s.role found part out h

pub nothing_cause : (s : MetadataSetting) (found : List Value) (part : List Pair) (out : Answer) → Reads (unless_disabled s) found part out → why_nothing s part ≡ result_err out
unfolding unless_disabled
nothing_cause s found part out h = disabled_cause s.disabled s found part out h

-- ---- the answer

found_last : (found : List Value) (v : Value) → retrieved_in (found ++ v ∷ []) ≡ keys_in v
found_last [] v = refl
found_last (x ∷ []) v = refl
found_last (x ∷ y ∷ found) v = found_last (y ∷ found) v

-- What a settled answer leaves to be asked: nothing.
abbrev pub Settles : List Value → Answer → List Value → List Pair → Answer → Type 0
Settles before given found part out = (part ≡ []) × AnswersBy (result_err given) (retrieved_in (before ++ found)) out

pub settled_answers : (place : Place) (given : Answer) (before found : List Value) (part : List Pair) (out : Answer) → Reads (settled place given) found part out → Settles before given found part out
settled_answers place (Ok keys) before found part out h = let g = given_is {R = Answer} (Ok (just_read keys)) out found part h in (g.1, subst IsOk g.2 refl)
settled_answers place (Err e) before [] part out h = absurd h
settled_answers place (Err e) before (v ∷ found) part out h =
    let g = given_is (or_found e (keys_in v)) out found part h.2 in
    let last = ap (λ f. retrieved_in (before ++ v ∷ f)) g.0 ∙ found_last before v in
    (g.1, ap (or_found e) last ∙ g.2)

pub has_cause : (s : MetadataSetting) (found : List Value) (part : List Pair) (out : Answer) → Reads (metadata s) found part out → CauseMetadata s found part out
unfolding metadata
has_cause s found part out h =
    let p = split_onwards (unless_disabled s) (settled s.place) found part out h in
    let a = settled_answers s.place p.middle p.found_first p.found_then p.rest out p.then in
    let why = ap (why_nothing s) (whole_part part p.part p.rest p.parts a.0) ∙ nothing_cause s p.found_first p.part p.middle p.first in
    subst (λ w. AnswersBy w (retrieved_in found) out) (sym why)
    (subst (λ f. AnswersBy (result_err p.middle) (retrieved_in f) out) (sym p.finds) a.1)
