-- The role that an endpoint lists, and its document.
use Rattle.std.proofs.Common.{◌≡◌, ◌≢◌, ◌≤◌, ◌<◌, ◌+◌, ℕ, List, [], ◌∷◌, ◌++◌, Bool, true, false, Option, Some, None, refl, sym, ap, ◌∙◌, subst, arith}
use Rattle.std.specs.Prelude.{Result, Ok, Err, option_map, if◌then◌else◌}
use Rattle.std.specs.Option.{option_or}
use Rattle.std.specs.Str.{encode_utf8_all, all_scalars, IsUtf8, bytes_eq}
use Rattle.std.proofs.lemmas.List.{append_cancel_left}
use Rattle.std.proofs.lemmas.Slice.Eq.{bytes_eq-Decides}
use Rattle.std.proofs.lemmas.Str.{IsUtf8-append}
use Rattle.cfg_base.specs.Moment.{Moment}
use Rattle.cfg_base.specs.Text.{characters}
use Rattle.cfg_base.proofs.TextLemmas.{characters-encodes, encodes-chars, same_chars}
use Rattle.cfg_types.specs.Keys.{Keys}
use Rattle.cfg_types.specs.declared.errors.CredentialsError.{CredentialsError}
use Rattle.cfg_types.specs.declared.errors.CredentialsError.TheVariants.{CredentialsNotLoaded}
use Rattle.cfg_types.specs.declared.errors.NotLoadedCause.TheVariants.{MetadataDisabled}
use Rattle.cfg_types.specs.declared.errors.imds.ImdsError.{ImdsError}
use Rattle.cfg_types.specs.declared.errors.imds.ImdsError.TheVariants.{Unexpected}
use Rattle.cfg_types.specs.declared.errors.imds.UnexpectedCause.TheVariants.{Path}
use Rattle.cfg_types.specs.declared.reply.Reply.TheVariants as replied
use Rattle.cfg_world.specs.declared.ask.Question.TheVariants as question
use Rattle.cfg_world.specs.declared.ask.Answer.TheVariants as answer
use Rattle.cfg_world.specs.Fits.{Pair}
use Rattle.cfg_world.specs.Faults.{full_count}
use Rattle.cfg_world.specs.Inquiry as low
use Rattle.cfg_world.specs.Inquiry.{Done}
use Rattle.cfg_world.specs.LastReadings.{last_reading_from, last_reading, reading_or}
use Rattle.cfg_world.specs.Leaves.{moment_of, jitter_of, http_of}
use Rattle.cfg_world.proofs.Inquiries.{split_after}
use Rattle.cfg_exchange.specs.Attempts.{asked}
use Rattle.cfg_exchange.specs.Documents.{document as document_said}
use Rattle.cfg_imds.specs.declared.endpoint.Endpoint.TheVariants.{At}
use Rattle.cfg_imds.specs.Clients.{ClientRules, why_unusable, usable_error}
use Rattle.cfg_exchange.specs.Readings.{text_reading}
use Rattle.cfg_exchange.proofs.Utf8.{passes_utf8}
use Rattle.cfg_imds.specs.Fetches.{reply_fault, entry_text, text_or}
use Rattle.cfg_imds.specs.Paths.{is_path}
use Rattle.cfg_imds.proofs.Shapes.{asked_is, done_is}
use Rattle.cfg_kept.specs.declared.place.Place.TheVariants.{Chain}
use Rattle.cfg_kept.specs.Kinds.{Value, States, MetadataTokenAt, RetrievedAt, with_value}
use Rattle.cfg_kept.specs.KeptInquiry.{KeptInquiry, Gives, Runs, lift, onwards, onwards_if_ok}
use Rattle.cfg_kept.specs.Retrieved.{is_due, keys_until, extended as put_off, later_or_last}
use Rattle.cfg_kept.specs.RoleDocuments.{RoleKeys, get_document, role_document, said_role}
use Rattle.cfg_kept.proofs.Splits.{split_runs, lowered_run}
use Rattle.cfg_providers.specs.CustomSources.{Answer}
use Rattle.cfg_imds_credentials.specs.Metadata.{unless_fault, token_and_text, metadata_get, listing_path, role_path, listed, listing, path_of_role, documented, document, dated_keys, jittered, extended, dated, retrieves_at, retrieves, unless_disabled, settled, just_read, metadata}
use Rattle.cfg_imds_credentials.specs.Settings.{MetadataSetting}
use Rattle.cfg_imds_credentials.proofs.Given.{whole_part}
use Rattle.cfg_endpoint.specs.declared.served.Served.{Served}
use Rattle.cfg_endpoint.specs.Endpoints.{EndpointState, with_body, without_body, at_path, document_of}
use Rattle.cfg_endpoint.specs.Made.{IsWritable}
use Rattle.cfg_endpoint.specs.Serves.{Serves, after_question, after_questions}
use Rattle.cfg_endpoint.specs.Calls.{Fresh, metadata_expiry, metadata_keys}
use Rattle.cfg_endpoint.proofs.Documents.{says_served}
use Rattle.cfg_endpoint.proofs.Gets.{IsTimely, AreTimely, timely_split, Later, later_questions, IsUsual, StandsAt, GotServed, get_served}
use Rattle.cfg_endpoint.proofs.Replies.{body_fine, body_success}
use Rattle.cfg_endpoint.proofs.Stretches.{serves_split, after_both}

-- ---- paths

is_fine : (f : EndpointState) (path body : List ℕ) → at_path f path ≡ with_body body → IsUtf8 body → StandsAt f path
is_fine f path body is u = record { fine = ap text_reading is ∙ body_fine body u; success = ap reply_fault is ∙ body_success body u }

listing_utf8 : IsUtf8 listing_path
unfolding lib.Utf8.encode
listing_utf8 = (listing_path, (refl, refl))

-- the path of a role is not the listing's
other_path : (role : List ℕ) → role ≢ [] → all_scalars role ≡ true → bytes_eq (characters (role_path role)) (characters listing_path) ≡ false
other_path role named text = by_test (bytes_eq (characters (role_path role)) (characters listing_path)) refl
  where
    by_test : (b : Bool) → bytes_eq (characters (role_path role)) (characters listing_path) ≡ b → b ≡ false
    by_test false e = refl
    by_test true e =
        let same = (bytes_eq-Decides (characters (role_path role)) (characters listing_path)).0 e in
        let bytes : role_path role ≡ listing_path = same_chars (role_path role) listing_path (IsUtf8-append listing_path (encode_utf8_all role) listing_utf8 (role, (text, refl))) listing_utf8 same in
        let none : encode_utf8_all role ≡ [] = append_cancel_left listing_path (encode_utf8_all role) [] bytes in
        absurd (named (sym (characters-encodes role text) ∙ ap characters none))

itself_is : (xs : List ℕ) → bytes_eq xs xs ≡ true
itself_is xs = (bytes_eq-Decides xs xs).1 refl

pub listing_at : (f : EndpointState) → at_path f (characters listing_path) ≡ with_body (encode_utf8_all f.role)
listing_at f = ap (λ b. if b then with_body (encode_utf8_all f.role) else (if bytes_eq (characters listing_path) (characters (role_path f.role)) then with_body (document_of f.served) else without_body 404)) (itself_is (characters listing_path))

role_at : (f : EndpointState) (role : List ℕ) → f.role ≡ role → role ≢ [] → all_scalars role ≡ true → at_path f (characters (role_path role)) ≡ with_body (document_of f.served)
role_at f role same named text =
    ap (λ b. if b then with_body (encode_utf8_all f.role) else (if bytes_eq (characters (role_path role)) (characters (role_path f.role)) then with_body (document_of f.served) else without_body 404)) (other_path role named text)
    ∙ ap (λ b. if b then with_body (document_of f.served) else without_body 404) (ap (λ r. bytes_eq (characters (role_path role)) (characters (role_path r))) same ∙ itself_is (characters (role_path role)))

-- ---- what the entries say

entry_says : (entry : Pair) (body : List ℕ) → entry.1 ≡ answer.Replied (replied.Http (with_body body)) → entry_text entry ≡ characters body
unfolding entry_text
entry_says entry body is = ap (λ a. text_or (http_of a)) is

abbrev role_keys : Served → RoleKeys
role_keys s = record { access_key_id = s.id; secret_access_key = s.secret; session_token = s.token; expiry = s.expires }

document_says : (entry : Pair) (s : Served) → IsWritable s → entry.1 ≡ answer.Replied (replied.Http (with_body (document_of s))) → role_document entry ≡ Ok (role_keys s)
unfolding role_document get_document
document_says entry s w is =
    ap (λ t. said_role (document_said (encode_utf8_all t))) (entry_says entry (document_of s) is)
    ∙ ap (λ b. said_role (document_said b)) (encodes-chars (document_of s) w.utf8)
    ∙ ap said_role (says_served s w)

-- ---- the last reading

last_over : (before : Option Moment) (part rest : List Pair) (now : Moment) → ((b : Option Moment) → last_reading_from b rest ≡ Some now) → last_reading_from before (part ++ rest) ≡ Some now
last_over before [] rest now h = h before
last_over before (x ∷ part) rest now h = last_over (reading_or before x.0 x.1) part rest now h

-- ---- until when the keys are good

record Dated (s : Served) (part : List Pair) (out : Answer) : Type 0 where
  now : Moment
  reads : (b : Option Moment) → last_reading_from b part ≡ Some now
  is : out ≡ Ok (keys_until (role_keys s) (metadata_expiry s.expires now))
  asks : (e : EndpointState) → after_questions e part ≡ e

-- a jitter of 0
jittered_is : (s : Served) (reading : Pair) (part : List Pair) (out : Answer) → reading.0 ≡ question.Now → low.Reads (jittered (role_keys s) reading) part out → AreTimely part →
    (j : Pair) × (part ≡ j ∷ []) × (j.0 ≡ question.Jitter) × (out ≡ Ok (keys_until (role_keys s) (later_or_last (moment_of reading.1) 600)))
unfolding jittered dated_keys
jittered_is s reading part out now h timely =
    let p = split_after (asked question.Jitter) (λ jitter. Done (dated_keys (role_keys s) reading (Some jitter))) part out h in
    let one = asked_is question.Jitter p.part p.middle p.first in
    let end = done_is (dated_keys (role_keys s) reading (Some p.middle)) p.rest out p.then in
    let whole : part ≡ p.middle ∷ [] = p.parts ∙ ap (λ t. t ++ p.rest) one.0 ∙ ap (λ r. p.middle ∷ r) end.0 in
    let zero : p.middle.1 ≡ answer.Jitter 0 = subst (λ q. IsTimely q p.middle.1) one.1 (subst AreTimely whole timely).0 in
    (p.middle, whole, one.1, sym end.1 ∙ ap (λ a. Ok (keys_until (role_keys s) (put_off (moment_of reading.1) (jitter_of a)))) zero)

by_due : (s : Served) (reading : Pair) (rest : List Pair) (out : Answer) (due : Bool) → is_due s.expires (moment_of reading.1) ≡ due → reading.0 ≡ question.Now →
    low.Reads (if due then jittered (role_keys s) reading else Done (dated_keys (role_keys s) reading None)) rest out → AreTimely rest → Dated s (reading ∷ rest) out
unfolding dated_keys
by_due s reading rest out true is now h timely =
    let j = jittered_is s reading rest out now h timely in
    record {
      now = moment_of reading.1;
      reads = λ b. ap (λ r. last_reading_from b (reading ∷ r)) j.1 ∙ ap (λ q. last_reading_from (reading_or b q reading.1) (j.0 ∷ [])) now ∙ ap (λ q. reading_or (Some (moment_of reading.1)) q j.0.1) j.2;
      is = j.3 ∙ ap (λ d. Ok (keys_until (role_keys s) (if d then later_or_last (moment_of reading.1) 600 else s.expires))) (sym is);
      asks = λ e. ap (λ r. after_questions e (reading ∷ r)) j.1 ∙ ap (λ q. after_question (after_question e q) j.0.0) now ∙ ap (after_question e) j.2;
    }
by_due s reading rest out false is now h timely =
    let end = done_is (dated_keys (role_keys s) reading None) rest out h in
    record {
      now = moment_of reading.1;
      reads = λ b. ap (λ r. last_reading_from b (reading ∷ r)) end.0 ∙ ap (λ q. reading_or b q reading.1) now;
      is = sym end.1 ∙ ap (λ d. Ok (keys_until (role_keys s) (if d then later_or_last (moment_of reading.1) 600 else s.expires))) (sym is);
      asks = λ e. ap (λ r. after_questions e (reading ∷ r)) end.0 ∙ ap (after_question e) now;
    }

dated_is : (s : Served) (part : List Pair) (out : Answer) → low.Reads (dated (role_keys s)) part out → AreTimely part → Dated s part out
unfolding dated extended
dated_is s part out h timely =
    let p = split_after (asked question.Now) (λ reading. extended (role_keys s) reading) part out h in
    let one = asked_is question.Now p.part p.middle p.first in
    let whole : part ≡ p.middle ∷ p.rest = p.parts ∙ ap (λ t. t ++ p.rest) one.0 in
    subst (λ j. Dated s j out) (sym whole) (by_due s p.middle p.rest out (is_due s.expires (moment_of p.middle.1)) refl one.1 p.then (subst AreTimely whole timely).1)

pub gives_run : {R : Type 0} (said : R) (old new : Option States) (found : List Value) (part : List Pair) (out : R) → Runs (Gives said) old found part out new → (found ≡ []) × (part ≡ []) × (said ≡ out) × (old ≡ new)
gives_run said old new [] [] out h = (refl, refl, h.0, h.1)
gives_run said old new [] (x ∷ part) out h = absurd h
gives_run said old new (f ∷ found) part out h = absurd h

-- ---- one get, where its path can be asked for

usable : (client : ClientRules) (address path : List ℕ) → client.endpoint ≡ At address → is_path path ≡ true → usable_error client path ≡ None
unfolding why_unusable
usable client address path at fine = ap (λ e. option_map Unexpected (why_unusable e path)) at ∙ ap (λ b. option_map Unexpected (option_or (if b then None else Some (Path (characters path))) None)) fine

module _ (client : ClientRules) (usual : IsUsual client.service) (address : List ℕ) (at : client.endpoint ≡ At address) where
  got : (path : List ℕ) (e : EndpointState) (old : States) (new : Option States) (found : List Value) (part : List Pair) (out : Result Pair ImdsError) → is_path path ≡ true → ((f : EndpointState) → Later e f → StandsAt f (characters path)) →
      Runs (metadata_get client Chain path) (Some old) found part out new → e.since ≤ e.given → e.given < full_count → Serves e part → AreTimely part → Fresh e old → GotServed client usual e old path part out new
  unfolding metadata_get
  got path e old new found part out fine there runs known room serves timely fresh =
      get_served client usual path e old new found part out there
      (subst (λ o. Runs (unless_fault o (token_and_text client Chain path)) (Some old) found part out new) (usable client address path at fine) runs)
      known room serves timely fresh

  -- a step that gives what was said, and leaves a session token that is fresh
  record Stepped {R : Type 0} (e : EndpointState) (more : ℕ) (part : List Pair) (out said : R) (new : Option States) : Type 0 where
    is : out ≡ said
    kept : States
    leaves : new ≡ Some kept
    fresh : Fresh (after_questions e part) kept
    few : (after_questions e part).given ≤ e.given + more

  abbrev answered : {R : Type 0} → (Result Pair ImdsError → R) → List ℕ → KeptInquiry R
  answered read path = onwards (metadata_get client Chain path) (λ got. Gives (read got))

  -- one get, and what its text is read as
  answered_is : {R : Type 0} (read : Result Pair ImdsError → R) (path body : List ℕ) (e : EndpointState) (old : States) (new : Option States) (found : List Value) (part : List Pair) (out said : R) → is_path path ≡ true → IsUtf8 body →
      ((f : EndpointState) → Later e f → at_path f (characters path) ≡ with_body body) → ((entry : Pair) → entry.1 ≡ answer.Replied (replied.Http (with_body body)) → read (Ok entry) ≡ said) →
      Runs (answered read path) (Some old) found part out new → e.since ≤ e.given → e.given < full_count → Serves e part → AreTimely part → Fresh e old → Stepped e 1 part out said new
  answered_is read path body e old new found part out said fine u there reads runs known room serves timely fresh =
      let s = split_runs (metadata_get client Chain path) (λ got. Gives (read got)) (Some old) new found part out runs in
      let end = gives_run (read s.middle) s.kept new s.found_then s.rest out s.then in
      let whole : part ≡ s.part = whole_part part s.part s.rest s.parts end.1 in
      let g = got path e old s.kept s.found_first s.part s.middle fine (λ f l. is_fine f (characters path) body (there f l) u) s.first known room (subst (Serves e) whole serves) (subst AreTimely whole timely) fresh in
      let sent : g.entry.1 ≡ answer.Replied (replied.Http (with_body body)) = g.sent.is ∙ ap (λ r. answer.Replied (replied.Http r)) (there (after_questions e s.part) (later_questions e s.part)) in
      subst (λ j. Stepped e 1 j out said new) (sym whole) (record {
        is = sym end.2 ∙ ap read g.is ∙ reads g.entry sent;
        kept = with_value old (MetadataTokenAt Chain g.left);
        leaves = sym end.3 ∙ g.leaves;
        fresh = g.fresh;
        few = g.few;
      })

  listing_is_path : is_path listing_path ≡ true
  unfolding is_path
  listing_is_path = sym (passes_utf8 listing_path listing_utf8)

  module _ (e : EndpointState) (named : e.role ≢ []) (text : all_scalars e.role ≡ true) (writable : IsWritable e.served) (fine : is_path (role_path e.role) ≡ true) where
    listing_served : (old : States) (new : Option States) (found : List Value) (part : List Pair) (out : Result (List ℕ) CredentialsError) →
        Runs (path_of_role client Chain None) (Some old) found part out new → e.since ≤ e.given → e.given < full_count → Serves e part → AreTimely part → Fresh e old → Stepped e 1 part out (Ok (role_path e.role)) new
    unfolding path_of_role listing listed
    listing_served old new found part out runs known room serves timely fresh =
        answered_is listed listing_path (encode_utf8_all e.role) e old new found part out (Ok (role_path e.role)) listing_is_path (e.role, (text, refl))
        (λ f l. listing_at f ∙ ap (λ r. with_body (encode_utf8_all r)) l.role)
        (λ entry is. ap (λ t. Ok (role_path t)) (entry_says entry (encode_utf8_all e.role) is ∙ characters-encodes e.role text))
        runs known room serves timely fresh

    document_served : (f : EndpointState) → Later e f → (old : States) (new : Option States) (found : List Value) (part : List Pair) (out : Result RoleKeys CredentialsError) →
        Runs (document client Chain (role_path e.role)) (Some old) found part out new → f.since ≤ f.given → f.given < full_count → Serves f part → AreTimely part → Fresh f old → Stepped f 1 part out (Ok (role_keys e.served)) new
    unfolding document documented
    document_served f l old new found part out runs known room serves timely fresh =
        answered_is documented (role_path e.role) (document_of e.served) f old new found part out (Ok (role_keys e.served)) fine writable.utf8
        (λ g k. role_at g e.role (k.role ∙ l.role) named text ∙ ap (λ s. with_body (document_of s)) (k.served ∙ l.served))
        (λ entry is. document_says entry e.served writable is)
        runs known room serves timely fresh

    -- ---- the whole

    pub record Retrieved (part : List Pair) (out : Answer) (new : Option States) : Type 0 where
      pub now : Moment
      pub reads : (b : Option Moment) → last_reading_from b part ≡ Some now
      pub is : out ≡ Ok (keys_until (role_keys e.served) (metadata_expiry e.served.expires now))
      pub kept : States
      pub leaves : new ≡ Some kept
      pub fresh : Fresh (after_questions e part) kept
      pub few : (after_questions e part).given ≤ e.given + 2

    abbrev dates : RoleKeys → KeptInquiry Answer
    dates role = lift (dated role)

    role_served : (f : EndpointState) → Later e f → (old : States) (new : Option States) (found : List Value) (part : List Pair) (out : Answer) →
        Runs (retrieves_at client Chain (role_path e.role)) (Some old) found part out new → f.since ≤ f.given → f.given < full_count → Serves f part → AreTimely part → Fresh f old →
        (now : Moment) × ((b : Option Moment) → last_reading_from b part ≡ Some now) × Stepped f 1 part out (Ok (keys_until (role_keys e.served) (metadata_expiry e.served.expires now))) new
    unfolding retrieves_at
    role_served f l old new found part out runs known room serves timely fresh =
        let s = split_runs (document client Chain (role_path e.role)) (onwards_if_ok dates) (Some old) new found part out runs in
        let both = serves_split f s.part s.rest (subst (Serves f) s.parts serves) in
        let times = timely_split s.part s.rest (subst AreTimely s.parts timely) in
        let d = document_served f l old s.kept s.found_first s.part s.middle s.first known room both.0 times.0 fresh in
        let run = subst (λ m. Runs (onwards_if_ok dates m) s.kept s.found_then s.rest out new) d.is s.then in
        let low_run = lowered_run (dated (role_keys e.served)) s.kept new s.found_then s.rest out run in
        let t = dated_is e.served s.rest out low_run.2 times.1 in
        let same : after_questions f part ≡ after_questions f s.part = ap (after_questions f) s.parts ∙ after_both f s.part s.rest ∙ t.asks (after_questions f s.part) in (
          t.now,
          λ b. ap (last_reading_from b) s.parts ∙ last_over b s.part s.rest t.now t.reads,
          record {
            is = t.is;
            kept = d.kept;
            leaves = sym low_run.1 ∙ d.leaves;
            fresh = subst (λ g. Fresh g d.kept) (sym same) d.fresh;
            few = subst (λ g. g.given ≤ f.given + 1) (sym same) d.few;
          },
        )

    pub retrieved_served : (old : States) (new : Option States) (found : List Value) (part : List Pair) (out : Answer) →
        Runs (retrieves client Chain None) (Some old) found part out new → e.since ≤ e.given → e.given + 1 < full_count → Serves e part → AreTimely part → Fresh e old → Retrieved part out new
    unfolding retrieves
    retrieved_served old new found part out runs known room serves timely fresh =
        let s = split_runs (path_of_role client Chain None) (onwards_if_ok (retrieves_at client Chain)) (Some old) new found part out runs in
        let both = serves_split e s.part s.rest (subst (Serves e) s.parts serves) in
        let times = timely_split s.part s.rest (subst AreTimely s.parts timely) in
        let p = listing_served old s.kept s.found_first s.part s.middle s.first known (omega (arith, room)) both.0 times.0 fresh in
        let f : EndpointState = after_questions e s.part in
        let l : Later e f = later_questions e s.part in
        let run : Runs (retrieves_at client Chain (role_path e.role)) (Some p.kept) s.found_then s.rest out new =
        subst (λ k. Runs (retrieves_at client Chain (role_path e.role)) k s.found_then s.rest out new) p.leaves
        (subst (λ m. Runs (onwards_if_ok (retrieves_at client Chain) m) s.kept s.found_then s.rest out new) p.is s.then) in
        let r = role_served f l p.kept new s.found_then s.rest out run (omega (arith, known, l.since, l.given)) (omega (arith, room, p.few)) both.1 times.1 p.fresh in
        let same : after_questions e part ≡ after_questions f s.rest = ap (after_questions e) s.parts ∙ after_both e s.part s.rest in
        record {
          now = r.0;
          reads = λ b. ap (last_reading_from b) s.parts ∙ last_over b s.part s.rest r.0 r.1;
          is = r.2.is;
          kept = r.2.kept;
          leaves = r.2.leaves;
          fresh = subst (λ g. Fresh g r.2.kept) (sym same) r.2.fresh;
          few = subst (λ g. g.given ≤ e.given + 2) (sym same) (omega (arith, r.2.few, p.few));
        }

    pub record MetadataServed (part : List Pair) (out : Answer) (new : Option States) : Type 0 where
      pub now : Moment
      pub reads : last_reading part ≡ Some now
      pub is : out ≡ Ok (metadata_keys e.served (metadata_expiry e.served.expires now))
      pub kept : States
      pub leaves : new ≡ Some kept
      pub fresh : Fresh (after_questions e part) kept
      pub few : (after_questions e part).given ≤ e.given + 2

    kept_run : (keys : Keys) (old : States) (new : Option States) (found : List Value) (part : List Pair) (out : Answer) → Runs (settled Chain (Ok keys)) (Some old) found part out new →
        (part ≡ []) × (out ≡ Ok (just_read keys)) × (new ≡ Some (with_value old (RetrievedAt Chain (Some keys))))
    kept_run keys old new [] [] out h = (refl, sym h.0, sym h.1)
    kept_run keys old new [] (x ∷ part) out h = absurd h
    kept_run keys old new (v ∷ found) [] out h = absurd h
    kept_run keys old new (v ∷ found) (x ∷ part) out h = absurd h

    pub metadata_served : (s : MetadataSetting) (old : States) (new : Option States) (found : List Value) (part : List Pair) (out : Answer) → s.disabled ≡ false → s.client ≡ client → s.role ≡ None → s.place ≡ Chain →
        Runs (metadata s) (Some old) found part out new → e.since ≤ e.given → e.given + 1 < full_count → Serves e part → AreTimely part → Fresh e old → MetadataServed part out new
    unfolding metadata unless_disabled
    metadata_served s old new found part out enabled same_client no_role chain runs known room serves timely fresh =
        let r = split_runs (unless_disabled s) (settled s.place) (Some old) new found part out runs in
        let both = serves_split e r.part r.rest (subst (Serves e) r.parts serves) in
        let times = timely_split r.part r.rest (subst AreTimely r.parts timely) in
        let asks : Runs (retrieves client Chain None) (Some old) r.found_first r.part r.middle r.kept =
        subst (λ p. Runs (retrieves client p None) (Some old) r.found_first r.part r.middle r.kept) chain
        (subst (λ o. Runs (retrieves client s.place o) (Some old) r.found_first r.part r.middle r.kept) no_role
        (subst (λ c. Runs (retrieves c s.place s.role) (Some old) r.found_first r.part r.middle r.kept) same_client
        (subst (λ b. Runs (if b then Gives (Err (CredentialsNotLoaded MetadataDisabled)) else retrieves s.client s.place s.role) (Some old) r.found_first r.part r.middle r.kept) enabled r.first))) in
        let t = retrieved_served old r.kept r.found_first r.part r.middle asks known room both.0 times.0 fresh in
        let keys : Keys = keys_until (role_keys e.served) (metadata_expiry e.served.expires t.now) in
        let run : Runs (settled Chain (Ok keys)) (Some t.kept) r.found_then r.rest out new =
        subst (λ p. Runs (settled p (Ok keys)) (Some t.kept) r.found_then r.rest out new) chain
        (subst (λ k. Runs (settled s.place (Ok keys)) k r.found_then r.rest out new) t.leaves
        (subst (λ m. Runs (settled s.place m) r.kept r.found_then r.rest out new) t.is r.then)) in
        let end = kept_run keys t.kept new r.found_then r.rest out run in
        let whole : part ≡ r.part = whole_part part r.part r.rest r.parts end.0 in
        let reads : last_reading part ≡ Some t.now = ap last_reading whole ∙ t.reads None in
        record {
          now = t.now;
          reads = reads;
          is = end.1;
          kept = with_value t.kept (RetrievedAt Chain (Some keys));
          leaves = end.2;
          fresh = subst (λ j. Fresh (after_questions e j) t.kept) (sym whole) t.fresh;
          few = subst (λ j. (after_questions e j).given ≤ e.given + 2) (sym whole) t.few;
        }
