-- Gets from an endpoint, and the session token that is kept for them.
use Rattle.std.proofs.Common.{◌≡◌, ◌≤◌, ◌<◌, ◌+◌, ◌-◌, ℕ, List, [], ◌∷◌, ◌++◌, Bool, true, false, Option, Some, None, refl, sym, ap, ◌∙◌, subst, append-nil, inl, inr, arith, lt-ltb}
use Rattle.std.specs.Prelude.{Result, Ok, IfSome, if◌then◌else◌}
use Rattle.std.specs.List.{AllByRecursion}
use Rattle.cfg_base.specs.Text.{characters}
use Rattle.cfg_types.specs.declared.errors.imds.ImdsError.{ImdsError}
use Rattle.cfg_types.specs.declared.reply.Reply.TheVariants as replied
use Rattle.cfg_types.specs.declared.reply.http.HttpReply.{HttpReply}
use Rattle.cfg_types.specs.declared.request.Request.{Request}
use Rattle.cfg_types.specs.declared.request.Request.TheVariants as request
use Rattle.cfg_world.specs.declared.ask.Question.{Question}
use Rattle.cfg_world.specs.declared.ask.Question.TheVariants as question
use Rattle.cfg_world.specs.declared.ask.Answer.{Answer}
use Rattle.cfg_world.specs.declared.ask.Answer.TheVariants as answer
use Rattle.cfg_world.specs.Faults.{full_count}
use Rattle.cfg_world.specs.Fits.{Pair}
use Rattle.cfg_world.specs.Leaves.{moment_of, http_of}
use Rattle.cfg_exchange.specs.declared.reading.ReplyKind.TheVariants as kind
use Rattle.cfg_exchange.specs.declared.reading.Reading.TheVariants.{Fine}
use Rattle.cfg_exchange.specs.Attempts.{Attempts}
use Rattle.cfg_exchange.specs.Classifiers.{Repeats, unless_fine, is_repeated}
use Rattle.cfg_exchange.specs.Readings.{text_reading}
use Rattle.cfg_imds.specs.Clients.{ClientRules, place_of, settle, fetch}
use Rattle.cfg_imds.specs.Fetches.{fetched, entry_fault, reply_fault}
use Rattle.cfg_imds.specs.Requests.{Service, token_request, get_request}
use Rattle.cfg_imds.specs.SettledParts.{Renewed, SettledBy, SettledPart}
use Rattle.cfg_imds.specs.Settles.{Settled, has_time_left, renewal}
use Rattle.cfg_imds.specs.Tokens.{Token, reply_token, read_token}
use Rattle.cfg_imds.proofs.Shapes.{Fetched, settle_shape, fetch_shape}
use Rattle.cfg_kept.specs.declared.place.Place.TheVariants.{Chain}
use Rattle.cfg_kept.specs.Kinds.{Value, States, MetadataTokenAt, value_at, with_value, token_in}
use Rattle.cfg_kept.specs.KeptInquiry.{Runs, lift, onwards, onwards_if_ok}
use Rattle.cfg_kept.specs.Holds.{holding, left_by}
use Rattle.cfg_kept.specs.MetadataHoldings.{token_holding}
use Rattle.cfg_kept.proofs.Splits.{split_runs, lowered_run}
use Rattle.cfg_imds_credentials.specs.Metadata.{token_and_text}
use Rattle.cfg_endpoint.specs.Endpoints.{EndpointState, Accepts, gives_token, with_token, token_text, token_answer, token_reply, at_path, IsGetReply, after_token, after_request}
use Rattle.cfg_endpoint.specs.Serves.{AnswersAs, after_question, Serves, after_questions}
use Rattle.cfg_endpoint.specs.Calls.{IsEarly, Fresh}
use Rattle.cfg_endpoint.proofs.Stretches.{serves_split, after_both}
use Rattle.cfg_endpoint.proofs.Replies.{token_fine, token_read}

-- ---- what the clock and the jitter answer

abbrev pub IsTimely : Question → Answer → Type 0
IsTimely question.Now given = IsEarly (moment_of given)
IsTimely question.Jitter given = given ≡ answer.Jitter 0
IsTimely _ given = Unit {0}

abbrev pub AreTimely : List Pair → Type 0
AreTimely [] = Unit {0}
AreTimely (x ∷ part) = IsTimely x.0 x.1 × AreTimely part

pub timely_split : (part rest : List Pair) → AreTimely (part ++ rest) → AreTimely part × AreTimely rest
timely_split [] rest h = (tt, h)
timely_split (x ∷ part) rest h = let r = timely_split part rest h.1 in ((h.0, r.0), r.1)

-- ---- an endpoint, later

-- the same endpoint, with no fewer tokens given
pub record Later (e f : EndpointState) : Type 0 where
  pub role : f.role ≡ e.role
  pub served : f.served ≡ e.served
  pub since : f.since ≡ e.since
  pub given : e.given ≤ f.given

itself : (e : EndpointState) → Later e e
itself e = record { role = refl; served = refl; since = refl; given = omega arith }

later_both : (e f g : EndpointState) → Later e f → Later f g → Later e g
later_both e f g h k = record { role = k.role ∙ h.role; served = k.served ∙ h.served; since = k.since ∙ h.since; given = omega (arith, h.given, k.given) }

later_token : (e : EndpointState) (b : Bool) → Later e (if b then with_token e else e)
later_token e true = record { role = refl; served = refl; since = refl; given = omega arith }
later_token e false = itself e

later_request : (e : EndpointState) (r : Request) → Later e (after_request e r)
later_request e (request.Http call) = itself e
later_request e (request.MetadataToken call) = later_token e (gives_token e call.ttl_seconds)
later_request e (request.MetadataGet call) = itself e
later_request e (request.AssumeRole call) = itself e
later_request e (request.AssumeRoleWithWebIdentity call) = itself e
later_request e (request.GetRoleCredentials call) = itself e
later_request e (request.CreateToken call) = itself e
later_request e (request.CreateOAuth2Token call) = itself e

later_question : (e : EndpointState) (q : Question) → Later e (after_question e q)
later_question e (question.Send r) = later_request e r
later_question e question.Now = itself e
later_question e question.Jitter = itself e
later_question e (question.Read path) = itself e
later_question e (question.Write path bytes) = itself e
later_question e (question.Run command) = itself e
later_question e (question.LookUp host) = itself e

pub later_questions : (e : EndpointState) (part : List Pair) → Later e (after_questions e part)
later_questions e [] = itself e
later_questions e (x ∷ part) = later_both e (after_question e x.0) (after_questions (after_question e x.0) part) (later_question e x.0) (later_questions (after_question e x.0) part)

pub accepted_later : (e f : EndpointState) (token : List ℕ) → Later e f → Accepts e token → Accepts f token
accepted_later e f token l a = (a.0, omega (arith, l.since, a.1), omega (arith, l.given, a.2), a.3)

-- ---- one attempt

not_both : true ≡ false → ⊥
not_both h = absurd cc

one_by : (e : EndpointState) (q : Question) (repeats : Answer → Bool) (part : List Pair) (last : Pair) (before : List Pair) → ((a : Answer) → AnswersAs e q a → repeats a ≡ false) →
    part ≡ before ++ last ∷ [] → AllByRecursion (λ x. (x.0 ≡ q) × (repeats x.1 ≡ true)) before → Serves e part → part ≡ last ∷ []
one_by e q repeats part last [] fine is each serves = is
one_by e q repeats part last (b ∷ before) fine is each serves =
    let there : Serves e (b ∷ (before ++ last ∷ [])) = subst (Serves e) is serves in
    let no : repeats b.1 ≡ false = fine b.1 (subst (λ x. AnswersAs e x b.1) each.0.0 there.0) in
    absurd (not_both (sym each.0.1 ∙ no))

-- where the answer to the question is not repeated, there is one attempt
pub one_try : (e : EndpointState) (q : Question) (limit : ℕ) (repeats : Answer → Bool) (part : List Pair) (last : Pair) → ((a : Answer) → AnswersAs e q a → repeats a ≡ false) → Attempts q limit repeats part last → Serves e part → part ≡ last ∷ []
one_try e q limit repeats part last fine t serves = one_by e q repeats part last t.before fine t.parts t.each serves

-- ---- a session token

-- the client asks for tokens of six hours
abbrev pub IsUsual : Service → Type 0
IsUsual s = s.settings.ttl_seconds ≡ 21600

pub record TokenSent (e : EndpointState) (given : Answer) : Type 0 where
  pub is : given ≡ answer.Replied (replied.Http (token_reply (e.given + 1) 21600))

gives : (e : EndpointState) → e.given < full_count → gives_token e 21600 ≡ true
gives e h = lt-ltb e.given full_count h

token_sent : (e : EndpointState) (s : Service) (endpoint : List ℕ) (a : Answer) → IsUsual s → e.given < full_count → AnswersAs e (question.Send (token_request s.settings endpoint)) a → TokenSent e a
token_sent e s endpoint a usual room h =
    let there : token_answer e 21600 ≡ token_reply (e.given + 1) 21600 = rw (lt-ltb e.given full_count room) refl in
    record { is = h.is ∙ ap (λ r. answer.Replied (replied.Http r)) (h.replies ∙ ap (token_answer e) usual ∙ there) }

token_once : (e : EndpointState) (repeats : Repeats) (a : Answer) → e.given < full_count → TokenSent e a → is_repeated kind.MetadataToken repeats a ≡ false
token_once e repeats a room g =
    let r = token_reply (e.given + 1) 21600 in
    subst (λ x. is_repeated kind.MetadataToken repeats x ≡ false) (sym g.is) (ap (λ k. unless_fine k (repeats (Some r) k)) (token_fine (e.given + 1) (omega (arith, room))))

after_sent : (e : EndpointState) (s : Service) (endpoint : List ℕ) → IsUsual s → e.given < full_count → after_question e (question.Send (token_request s.settings endpoint)) ≡ with_token e
after_sent e s endpoint usual room = ap (after_token e) usual ∙ ap (λ b. if b then with_token e else e) (gives e room)

-- ---- one settle

pub record Tokened (e : EndpointState) (part : List Pair) (out : Settled) : Type 0 where
  pub token : List ℕ
  pub left : Option Token
  pub is : out ≡ (Ok token, left)
  pub accepted : Accepts (after_questions e part) token
  pub fresh : IfSome left (λ t. Accepts (after_questions e part) t.value)
  pub few : (after_questions e part).given ≤ e.given + 1

read_is : (reply reading : Pair) (r : HttpReply) (t : Token) → http_of reply.1 ≡ Ok r → reply_token r (moment_of reading.1) ≡ Ok t → renewal reply reading ≡ (Ok t.value, Some t)
unfolding renewal read_token
read_is reply reading r t sent is = rw (sent, is) refl

module _ (s : Service) (endpoint : List ℕ) (usual : IsUsual s) where
  abbrev asks : Question
  asks = question.Send (token_request s.settings endpoint)

  renewed_served : (e : EndpointState) (first : Pair) (rest : List Pair) (out : Settled) → e.since ≤ e.given → first.0 ≡ question.Now → e.given < full_count → Renewed s endpoint rest out → Serves e (first ∷ rest) → AreTimely (first ∷ rest) → Tokened e (first ∷ rest) out
  renewed_served e first rest out known now room r serves timely =
      let behind : Serves e rest = subst (λ q. Serves (after_question e q) rest) now serves.1 in
      let both = serves_split e r.tokens (r.reading ∷ []) (subst (Serves e) r.parts behind) in
      let one = one_try e asks (s.settings.max_attempts - 1 + 1) (is_repeated kind.MetadataToken s.repeats) r.tokens r.reply (λ a h. token_once e s.repeats a room (token_sent e s endpoint a usual room h)) r.tried both.0 in
      let sent = token_sent e s endpoint r.reply.1 usual room (subst (λ x. AnswersAs e x r.reply.1) r.tried.asks (subst (Serves e) one both.0).0) in
      let times = timely_split r.tokens (r.reading ∷ []) (subst AreTimely r.parts timely.1) in
      let early : IsEarly (moment_of r.reading.1) = subst (λ x. IsTimely x r.reading.1) r.asks times.1.0 in
      let t = token_read (e.given + 1) (moment_of r.reading.1) (omega (arith, room)) early in
      let end : after_questions e (first ∷ rest) ≡ with_token e =
      ap (λ q. after_questions (after_question e q) rest) now
      ∙ ap (after_questions e) r.parts
      ∙ after_both e r.tokens (r.reading ∷ [])
      ∙ ap (λ p. after_question (after_questions e p) r.reading.0) one
      ∙ ap (λ q. after_question (after_question e r.reply.0) q) r.asks
      ∙ ap (after_question e) r.tried.asks
      ∙ after_sent e s endpoint usual room in
      let made : Accepts (with_token e) (token_text (e.given + 1)) = (e.given + 1, omega (arith, known), omega arith, refl) in
      let accepted : Accepts (after_questions e (first ∷ rest)) t.0.value = subst (λ f. Accepts f t.0.value) (sym end) (subst (Accepts (with_token e)) (sym t.2) made) in
      record {
        token = t.0.value;
        left = Some t.0;
        is = sym r.is ∙ read_is r.reply r.reading (token_reply (e.given + 1) 21600) t.0 (ap http_of sent.is) t.1;
        accepted = accepted;
        fresh = accepted;
        few = subst (λ f. f.given ≤ e.given + 1) (sym end) (omega arith);
      }

  settled_by : (e : EndpointState) (kept : Option Token) (first : Pair) (rest : List Pair) (out : Settled) (good : Bool) → has_time_left kept (moment_of first.1) ≡ good → SettledBy s endpoint kept good rest out →
      e.since ≤ e.given → first.0 ≡ question.Now → e.given < full_count → Serves e (first ∷ rest) → AreTimely (first ∷ rest) → IfSome kept (λ t. Accepts e t.value) → Tokened e (first ∷ rest) out
  settled_by e None first rest out true is by known now room serves timely fresh = absurd (not_both (sym is))
  settled_by e (Some t) first rest out true is by known now room serves timely fresh =
      let same : after_questions e (first ∷ rest) ≡ e = ap (λ q. after_questions (after_question e q) rest) now ∙ ap (after_questions e) by.0 in
      let accepted : Accepts (after_questions e (first ∷ rest)) t.value = subst (λ f. Accepts f t.value) (sym same) fresh in
      record { token = t.value; left = Some t; is = sym by.1; accepted = accepted; fresh = accepted; few = subst (λ f. f.given ≤ e.given + 1) (sym same) (omega arith) }
  settled_by e kept first rest out false is by known now room serves timely fresh = renewed_served e first rest out known now room by serves timely

  settle_served : (e : EndpointState) (kept : Option Token) (part : List Pair) (out : Settled) → SettledPart s endpoint kept part out → e.since ≤ e.given → e.given < full_count → Serves e part → AreTimely part → IfSome kept (λ t. Accepts e t.value) → Tokened e part out
  settle_served e kept part out p known room serves timely fresh =
      subst (λ j. Tokened e j out) (sym p.parts)
      (settled_by e kept p.first p.rest out (has_time_left kept (moment_of p.first.1)) refl p.then known p.asks room (subst (Serves e) p.parts serves) (subst AreTimely p.parts timely) fresh)

-- ---- one fetch

-- a success whose body is this text
pub record TextSent (given : Answer) (sent : HttpReply) : Type 0 where
  pub is : given ≡ answer.Replied (replied.Http sent)
  pub fine : text_reading sent ≡ Fine
  pub success : reply_fault sent ≡ None

text_once : (repeats : Repeats) (a : Answer) (sent : HttpReply) → TextSent a sent → is_repeated kind.MetadataText repeats a ≡ false
text_once repeats a sent g = subst (λ x. is_repeated kind.MetadataText repeats x ≡ false) (sym g.is) (ap (λ r. unless_fine r (repeats (Some sent) r)) g.fine)

fetched_is : (last : Pair) (sent : HttpReply) → TextSent last.1 sent → fetched last ≡ Ok last
unfolding fetched entry_fault
fetched_is last sent g = rw (ap http_of g.is, g.success) refl

-- what stands at a path of the endpoint is a text
pub record StandsAt (e : EndpointState) (path : List ℕ) : Type 0 where
  pub fine : text_reading (at_path e path) ≡ Fine
  pub success : reply_fault (at_path e path) ≡ None

get_sent : (e : EndpointState) (s : Service) (endpoint path token : List ℕ) (a : Answer) → StandsAt e (characters path) → Accepts e token → AnswersAs e (question.Send (get_request s.settings endpoint path token)) a → TextSent a (at_path e (characters path))
get_sent e s endpoint path token a there accepted h = by_reply h.replies
  where
    by_reply : IsGetReply e (record { endpoint = endpoint; path = characters path; token = token; timeouts = s.settings.timeouts }) h.sent → TextSent a (at_path e (characters path))
    by_reply (inl r) = record { is = h.is ∙ ap (λ x. answer.Replied (replied.Http x)) r.1; fine = there.fine; success = there.success }
    by_reply (inr r) = absurd (r.0 accepted)

fetch_served : (e : EndpointState) (s : Service) (endpoint path token : List ℕ) (part : List Pair) (out : Result Pair ImdsError) → StandsAt e (characters path) → Fetched s endpoint path token part out → Serves e part → Accepts e token →
    (x : Pair) × (out ≡ Ok x) × TextSent x.1 (at_path e (characters path)) × (part ≡ x ∷ []) × (x.0 ≡ question.Send (get_request s.settings endpoint path token))
fetch_served e s endpoint path token part out there f serves accepted =
    let q = question.Send (get_request s.settings endpoint path token) in
    let one = one_try e q (s.settings.max_attempts - 1 + 1) (is_repeated kind.MetadataText s.repeats) part f.last (λ a h. text_once s.repeats a (at_path e (characters path)) (get_sent e s endpoint path token a there accepted h)) f.tried serves in
    let given = get_sent e s endpoint path token f.last.1 there accepted (subst (λ x. AnswersAs e x f.last.1) f.tried.asks (subst (Serves e) one serves).0) in
    (f.last, sym f.is ∙ fetched_is f.last (at_path e (characters path)) given, given, one, f.tried.asks)

-- ---- one holding

pub record Held (e : EndpointState) (old : States) (part : List Pair) (middle : Result (List ℕ) ImdsError) (new : Option States) : Type 0 where
  pub token : List ℕ
  pub is : middle ≡ Ok token
  pub accepted : Accepts (after_questions e part) token
  pub left : Option Token
  pub leaves : new ≡ Some (with_value old (MetadataTokenAt Chain left))
  pub fresh : IfSome left (λ t. Accepts (after_questions e part) t.value)
  pub few : (after_questions e part).given ≤ e.given + 1

left_held : (e : EndpointState) (old : States) (part more : List Pair) (found : List Value) (made : Settled) (middle : Result (List ℕ) ImdsError) (new : Option States) →
    Tokened e part made → Runs (left_by (MetadataTokenAt Chain) made) (Some old) found more middle new → (more ≡ []) × Held e old part middle new
left_held e old part [] [] made middle new t r = (
  refl,
  record {
    token = t.token;
    is = sym r.0 ∙ ap (λ (m : Settled). m.0) t.is;
    accepted = t.accepted;
    left = t.left;
    leaves = sym r.1 ∙ ap (λ (m : Settled). Some (with_value old (MetadataTokenAt Chain m.1))) t.is;
    fresh = t.fresh;
    few = t.few;
  },
)
left_held e old part [] (f ∷ found) made middle new t r = absurd r
left_held e old part (x ∷ more) [] made middle new t r = absurd r
left_held e old part (x ∷ more) (f ∷ found) made middle new t r = absurd r

module _ (client : ClientRules) (usual : IsUsual client.service) where
  held_by : (e : EndpointState) (old : States) (v : Value) (found : List Value) (part : List Pair) (middle : Result (List ℕ) ImdsError) (new : Option States) →
      v ≡ MetadataTokenAt Chain old.chain.token → Runs (onwards (lift (settle client (token_in v))) (left_by (MetadataTokenAt Chain))) (Some old) found part middle new →
      e.since ≤ e.given → e.given < full_count → Serves e part → AreTimely part → Fresh e old → Held e old part middle new
  held_by e old v found part middle new is runs known room serves timely fresh =
      let s = split_runs (lift (settle client (token_in v))) (left_by (MetadataTokenAt Chain)) (Some old) new found part middle runs in
      let l = lowered_run (settle client (token_in v)) (Some old) s.kept s.found_first s.part s.middle s.first in
      let both = serves_split e s.part s.rest (subst (Serves e) s.parts serves) in
      let times = timely_split s.part s.rest (subst AreTimely s.parts timely) in
      let t = settle_served client.service (place_of client.endpoint) usual e (token_in v) s.part s.middle (settle_shape client.service (place_of client.endpoint) (token_in v) s.part s.middle l.2) known room both.0 times.0
      (subst (λ k. IfSome k (λ t. Accepts e t.value)) (sym (ap token_in is)) fresh) in
      let h = left_held e old s.part s.rest s.found_then s.middle middle new t (subst (λ k. Runs (left_by (MetadataTokenAt Chain) s.middle) k s.found_then s.rest middle new) (sym l.1) s.then) in
      subst (λ j. Held e old j middle new) (sym (s.parts ∙ ap (λ r. s.part ++ r) h.0 ∙ append-nil s.part)) h.1

  token_held : (e : EndpointState) (old : States) (found : List Value) (part : List Pair) (middle : Result (List ℕ) ImdsError) (new : Option States) →
      Runs (token_holding client Chain) (Some old) found part middle new → e.since ≤ e.given → e.given < full_count → Serves e part → AreTimely part → Fresh e old → Held e old part middle new
  unfolding token_holding holding
  token_held e old [] part middle new runs known room serves timely fresh = absurd runs
  token_held e old (v ∷ found) part middle new runs known room serves timely fresh = held_by e old v found part middle new (runs.1 ∙ ap (value_at old) runs.0) runs.2 known room serves timely fresh

  -- ---- one get

  pub record GotServed (e : EndpointState) (old : States) (path : List ℕ) (part : List Pair) (out : Result Pair ImdsError) (new : Option States) : Type 0 where
    pub entry : Pair
    pub is : out ≡ Ok entry
    pub sent : TextSent entry.1 (at_path (after_questions e part) (characters path))
    pub left : Option Token
    pub leaves : new ≡ Some (with_value old (MetadataTokenAt Chain left))
    pub fresh : IfSome left (λ t. Accepts (after_questions e part) t.value)
    pub few : (after_questions e part).given ≤ e.given + 1

  after_token_of : (path : List ℕ) (e : EndpointState) (old : States) (part rest : List Pair) (found : List Value) (middle : Result (List ℕ) ImdsError) (kept new : Option States) (out : Result Pair ImdsError) →
      StandsAt (after_questions e part) (characters path) → Held e old part middle kept → Runs (onwards_if_ok (λ token. lift (fetch client path token)) middle) kept found rest out new → Serves (after_questions e part) rest → GotServed e old path (part ++ rest) out new
  after_token_of path e old part rest found middle kept new out there h runs serves =
      let run = subst (λ m. Runs (onwards_if_ok (λ token. lift (fetch client path token)) m) kept found rest out new) h.is runs in
      let l = lowered_run (fetch client path h.token) kept new found rest out run in
      let f = fetch_served (after_questions e part) client.service (place_of client.endpoint) path h.token rest out there (fetch_shape client.service (place_of client.endpoint) path h.token rest out l.2) serves h.accepted in
      let q = question.Send (get_request client.service.settings (place_of client.endpoint) path h.token) in
      let same : after_questions e (part ++ rest) ≡ after_questions e part = after_both e part rest ∙ ap (after_questions (after_questions e part)) f.3 ∙ ap (after_question (after_questions e part)) f.4 in
      record {
        entry = f.0;
        is = f.1;
        sent = subst (λ g. TextSent f.0.1 (at_path g (characters path))) (sym same) f.2;
        left = h.left;
        leaves = sym l.1 ∙ h.leaves;
        fresh = subst (λ g. IfSome h.left (λ t. Accepts g t.value)) (sym same) h.fresh;
        few = subst (λ g. g.given ≤ e.given + 1) (sym same) h.few;
      }

  pub get_served : (path : List ℕ) (e : EndpointState) (old : States) (new : Option States) (found : List Value) (part : List Pair) (out : Result Pair ImdsError) → ((f : EndpointState) → Later e f → StandsAt f (characters path)) →
      Runs (token_and_text client Chain path) (Some old) found part out new → e.since ≤ e.given → e.given < full_count → Serves e part → AreTimely part → Fresh e old → GotServed e old path part out new
  unfolding token_and_text
  get_served path e old new found part out there runs known room serves timely fresh =
      let s = split_runs (token_holding client Chain) (onwards_if_ok (λ token. lift (fetch client path token))) (Some old) new found part out runs in
      let both = serves_split e s.part s.rest (subst (Serves e) s.parts serves) in
      let times = timely_split s.part s.rest (subst AreTimely s.parts timely) in
      let h = token_held e old s.found_first s.part s.middle s.kept s.first known room both.0 times.0 fresh in
      subst (λ j. GotServed e old path j out new) (sym s.parts) (after_token_of path e old s.part s.rest s.found_then s.middle s.kept new out (there (after_questions e s.part) (later_questions e s.part)) h s.then both.1)
