-- Devices that allow the same lists start from the same endpoint, where it is a new one, and by the same readings.
use Rattle.std.proofs.Common.{◌≡◌, ◌<◌, ◌+◌, ℕ, List, [], ◌∷◌, Bool, true, false, None, inl, inr, refl, sym, ap, ◌∙◌, subst, arith}
use Rattle.std.specs.Prelude.{Ok, nat_lt, codes, if◌then◌else◌}
use Rattle.std.specs.Str.{encode_utf8_all, all_scalars}
use borrow.Author.Tests.{ltb-true}
use Rattle.cfg_base.specs.Moment.{Moment}
use Rattle.cfg_base.specs.Text.{characters}
use Rattle.cfg_base.proofs.TextLemmas.{characters-encodes}
use Rattle.cfg_types.specs.declared.reply.Reply.TheVariants as reply
use Rattle.cfg_types.specs.declared.reply.http.HttpReply.{HttpReply}
use Rattle.cfg_types.specs.declared.request.Request.TheVariants as request
use Rattle.cfg_types.specs.declared.settings.Timeouts.{Timeouts}
use Rattle.cfg_types.specs.declared.request.http.MetadataGet.{MetadataGet}
use Rattle.cfg_json.specs.declared.credentials.JsonCredentials.{JsonCredentials}
use Rattle.cfg_json.specs.declared.credentials.JsonCredentials.TheVariants as says
use Rattle.cfg_json.specs.Documents.{Read}
use Rattle.cfg_world.specs.declared.ask.Question.{Question}
use Rattle.cfg_world.specs.declared.ask.Question.TheVariants as question
use Rattle.cfg_world.specs.declared.ask.Answer.{Answer}
use Rattle.cfg_world.specs.declared.ask.Answer.TheVariants as answer
use Rattle.cfg_world.specs.Asked.{Same}
use Rattle.cfg_world.specs.Faults.{full_count}
use Rattle.cfg_world.specs.Fits.{Pair}
use Rattle.cfg_exchange.specs.Documents.{document}
use Rattle.cfg_imds_credentials.specs.Metadata.{listing_path}
use Rattle.cfg_endpoint.specs.declared.served.Served.{Served}
use Rattle.cfg_endpoint.specs.Endpoints.{EndpointState, token_text, token_reply, token_answer, with_body, without_body, with_token, document_of, IsGetReply, at_path}
use Rattle.cfg_endpoint.specs.Made.{IsMade, IsWritable, new_endpoint}
use Rattle.cfg_endpoint.specs.Serves.{Serves, after_question}
use Rattle.cfg_endpoint.specs.Devices.{DevicesState, QuestionKept, place_after, Keeps, start, Allows}
use Rattle.cfg_endpoint.proofs.Documents.{says_served}
use Rattle.cfg_endpoint.proofs.Numbers.{one_number}
use Rattle.cfg_endpoint.proofs.Roles.{listing_at}

-- ---- what shows an endpoint: a session token, the role by it, and the document

no_limits : Timeouts
no_limits = record { connect_ms = None; read_ms = None; operation_ms = None; attempt_ms = None }

abbrev by_http : HttpReply → Answer
by_http sent = answer.Replied (reply.Http sent)

abbrev asks_token : Question
asks_token = question.Send (request.MetadataToken (record { endpoint = []; ttl_seconds = 1; timeouts = no_limits }))

abbrev asks_role : Question
asks_role = question.Send (request.MetadataGet (record { endpoint = []; path = characters listing_path; token = token_text 1; timeouts = no_limits }))

abbrev asks_document : Question
asks_document = question.Send (request.Http (record { endpoint = []; path = codes "/c"; authorization = None; timeouts = no_limits }))

abbrev shown_by : EndpointState → List Pair
shown_by a = (asks_token, by_http (token_reply 1 1)) ∷ (asks_role, by_http (with_body (encode_utf8_all a.role))) ∷ (asks_document, by_http (with_body (document_of a.served))) ∷ []

module _ (role : List ℕ) (served : Served) where
  abbrev made : EndpointState
  made = new_endpoint role served

  -- a new endpoint gives these answers
  shows : Serves made (shown_by made)
  shows = (
    record { sent = token_reply 1 1; is = refl; replies = refl },
    (
      record { sent = with_body (encode_utf8_all role); is = refl; replies = inl ((1, omega arith, omega arith, refl), sym (listing_at (with_token made))) },
      (record { sent = with_body (document_of served); is = refl; replies = refl }, tt),
    ),
  )

same_sent : (r s : HttpReply) → by_http r ≡ by_http s → r ≡ s
same_sent r s h = cc

status_of : (r s : HttpReply) → r ≡ s → r.status ≡ s.status
status_of r s e = ap (λ r. r.status) e

body_of : (r s : HttpReply) → r ≡ s → r.body ≡ s.body
body_of r s e = ap (λ r. r.body) e

-- the number of the first token shows that none was given before
none_given : (n : ℕ) (b : Bool) → nat_lt n full_count ≡ b → token_reply 1 1 ≡ (if b then token_reply (n + 1) 1 else without_body 503) → (n ≡ 0) × (b ≡ true)
none_given n true t e =
    let lt : n < full_count = ltb-true n full_count t in
    let same : 1 ≡ n + 1 = one_number 1 (n + 1) (omega arith) (omega (arith, lt)) (body_of (token_reply 1 1) (token_reply (n + 1) 1) e) in
    (omega (arith, same), refl)
none_given n false t e = absurd (let s : 200 ≡ 503 = status_of (token_reply 1 1) (without_body 503) e in omega (arith, s))

record Listed (e : EndpointState) (role : List ℕ) : Type 0 where
  since : e.since ≡ 0
  bytes : encode_utf8_all role ≡ encode_utf8_all e.role

-- a role that is listed is the endpoint's, and the token that listed it is not forgotten
listed_by : (e : EndpointState) (call : MetadataGet) (role : List ℕ) → call.path ≡ characters listing_path → e.given ≡ 1 → IsGetReply e call (with_body (encode_utf8_all role)) → Listed e role
listed_by e call role path one (inl h) = record {
  since = omega (arith, h.0.1, h.0.2, one);
  bytes = body_of (with_body (encode_utf8_all role)) (with_body (encode_utf8_all e.role)) (h.1 ∙ ap (at_path e) path ∙ listing_at e);
}
listed_by e call role path one (inr h) = absurd (let s : 200 ≡ 401 = status_of (with_body (encode_utf8_all role)) (without_body 401) h.1 in omega (arith, s))

-- what a document says is one thing
abbrev served_in : Read JsonCredentials → Served → Served
served_in (Ok (says.RefreshableCredentials id secret token account expires)) other = record { id = id; secret = secret; token = token; expires = expires }
served_in _ other = other

one_served : (s t : Served) → IsWritable s → IsWritable t → document_of s ≡ document_of t → s ≡ t
one_served s t v w e = ap (λ r. served_in r s) (sym (says_served s v) ∙ ap document e ∙ says_served t w)

one_role : (role other : List ℕ) → all_scalars role ≡ true → all_scalars other ≡ true → encode_utf8_all role ≡ encode_utf8_all other → role ≡ other
one_role role other h k e = sym (characters-encodes role h) ∙ ap characters e ∙ characters-encodes other k

alike : (e f : EndpointState) → e.role ≡ f.role → e.served ≡ f.served → e.given ≡ f.given → e.since ≡ f.since → e ≡ f
alike e f role served given since = λ i. record { role = role i; served = served i; given = given i; since = since i }

-- an endpoint that gives these answers is that new one
new_by : (a b : EndpointState) → a.given ≡ 0 → a.since ≡ 0 → IsMade a → all_scalars b.role ≡ true → IsWritable b.served → Serves b (shown_by a) → b ≡ a
new_by a b zero none made text writable h =
    let first : token_reply 1 1 ≡ token_answer b 1 = same_sent (token_reply 1 1) h.0.sent h.0.is ∙ h.0.replies in
    let n = none_given b.given (nat_lt b.given full_count) refl first in
    let after : after_question b asks_token ≡ with_token b = ap (λ x. if x then with_token b else b) n.1 in
    let second = subst (λ e. Serves e ((asks_role, by_http (with_body (encode_utf8_all a.role))) ∷ (asks_document, by_http (with_body (document_of a.served))) ∷ [])) after h.1 in
    let call : MetadataGet = record { endpoint = []; path = characters listing_path; token = token_text 1; timeouts = no_limits } in
    let gives : IsGetReply (with_token b) call (with_body (encode_utf8_all a.role)) = subst (IsGetReply (with_token b) call) (sym (same_sent (with_body (encode_utf8_all a.role)) second.0.sent second.0.is)) second.0.replies in
    let l = listed_by (with_token b) call a.role refl (ap (λ k. k + 1) n.0) gives in
    let third : with_body (document_of a.served) ≡ with_body (document_of b.served) = same_sent (with_body (document_of a.served)) second.1.0.sent second.1.0.is ∙ second.1.0.replies in
    alike b a
    (sym (one_role a.role b.role made.is_text text l.bytes))
    (sym (one_served a.served b.served made.served writable (body_of (with_body (document_of a.served)) (with_body (document_of b.served)) third)))
    (n.0 ∙ sym zero) (l.since ∙ sym none)

-- ---- the clock

-- the readings of the clock alone
abbrev reading : Question → Answer → List Pair → List Pair
reading question.Now a rest = (question.Now, a) ∷ rest
reading q a rest = rest

abbrev readings : List Pair → List Pair
readings [] = []
readings (x ∷ journal) = reading x.0 x.1 (readings journal)

-- they ask nothing of an endpoint
serves_reading : (e : EndpointState) (q : Question) (a : Answer) (rest : List Pair) → Serves e rest → Serves e (reading q a rest)
serves_reading e question.Now a rest h = (tt, h)
serves_reading e question.Jitter a rest h = h
serves_reading e (question.Read path) a rest h = h
serves_reading e (question.Write path bytes) a rest h = h
serves_reading e (question.Run command) a rest h = h
serves_reading e (question.LookUp host) a rest h = h
serves_reading e (question.Send r) a rest h = h

serves_readings : (e : EndpointState) (journal : List Pair) → Serves e (readings journal)
serves_readings e [] = tt
serves_readings e (x ∷ journal) = serves_reading e x.0 x.1 (readings journal) (serves_readings e journal)

keeps_reading : (clock : List Moment) (place : ℕ) (q : Question) (a : Answer) (rest : List Pair) → QuestionKept clock place q a → Keeps clock (place_after clock place q) rest → Keeps clock place (reading q a rest)
keeps_reading clock place question.Now a rest h k = (h, k)
keeps_reading clock place question.Jitter a rest h k = k
keeps_reading clock place (question.Read path) a rest h k = k
keeps_reading clock place (question.Write path bytes) a rest h k = k
keeps_reading clock place (question.Run command) a rest h k = k
keeps_reading clock place (question.LookUp host) a rest h k = k
keeps_reading clock place (question.Send r) a rest h k = k

keeps_readings : (clock : List Moment) (place : ℕ) (journal : List Pair) → Keeps clock place journal → Keeps clock place (readings journal)
keeps_readings clock place [] h = tt
keeps_readings clock place (x ∷ journal) h = keeps_reading clock place x.0 x.1 (readings journal) h.0 (keeps_readings clock (place_after clock place x.0) journal h.1)

-- all but the readings is answered so by every clock
module _ (clock other : List Moment) where
  keeps_too : (place at : ℕ) (q : Question) (a : Answer) (rest : List Pair) → QuestionKept clock place q a → Keeps other at (reading q a rest) → QuestionKept other at q a × Keeps other (place_after other at q) rest
  keeps_too place at question.Now a rest h k = (k.0, k.1)
  keeps_too place at question.Jitter a rest h k = (h, k)
  keeps_too place at (question.Read path) a rest h k = (h, k)
  keeps_too place at (question.Write path bytes) a rest h k = (h, k)
  keeps_too place at (question.Run command) a rest h k = (h, k)
  keeps_too place at (question.LookUp host) a rest h k = (h, k)
  keeps_too place at (question.Send r) a rest h k = (h, k)

  keeps_both : (place at : ℕ) (journal : List Pair) → Keeps clock place journal → Keeps other at (readings journal) → Keeps other at journal
  keeps_both place at [] h k = tt
  keeps_both place at (x ∷ journal) h k =
      let first = keeps_too place at x.0 x.1 (readings journal) h.0 k in
      (first.0, keeps_both (place_after clock place x.0) (place_after other at x.0) journal h.1 first.1)

-- ---- devices that allow the same lists

module _ (d now : DevicesState) (same : Same (Allows d) (Allows now)) where
  -- one clock answers as the other does
  pub same_readings : (journal : List Pair) → Keeps now.clock now.first_place journal → Keeps d.clock d.first_place journal
  same_readings journal k =
      keeps_both now.clock d.clock now.first_place d.first_place journal k
      (same.from (readings journal) (serves_readings (start now) journal, keeps_readings now.clock now.first_place journal k)).1

  -- what a new endpoint shows at the start, the other one shows
  pub same_start : (role : List ℕ) (served : Served) → start d ≡ new_endpoint role served → IsMade (start d) → all_scalars now.endpoint.role ≡ true → IsWritable now.endpoint.served → start now ≡ start d
  same_start role served is made text writable =
      let allowed : Allows d (shown_by (start d)) = (subst (λ e. Serves e (shown_by e)) (sym is) (shows role served), (tt, (tt, (tt, tt)))) in
      new_by (start d) (start now) (ap (λ e. e.given) is) (ap (λ e. e.since) is) made text writable (same.to (shown_by (start d)) allowed).0
