-- A container's requests go to safe targets.
use Rattle.std.proofs.Common.{◌≡◌, inl, inr, ℕ, zero, suc, List, [], ◌∷◌, ◌++◌, Bool, true, false, Option, Some, None, refl, sym, ap, subst, ◌∙◌}
use Rattle.std.specs.Prelude.{Ok, Err, ◌-◌, codes, option_map, if◌then◌else◌}
use Rattle.std.specs.List.{AllByRecursion}
use Rattle.std.specs.Str.{encode_utf8_all}
use Rattle.cfg_types.specs.Environment.{Variables, readable}
use Rattle.cfg_types.specs.declared.request.Request.{Request}
use Rattle.cfg_types.specs.declared.request.Request.TheVariants as request
use Rattle.cfg_world.specs.declared.ask.Question.TheVariants.{LookUp, Send}
use Rattle.cfg_world.specs.declared.ask.Answer.{Answer}
use Rattle.cfg_world.specs.Fits.{Pair}
use Rattle.cfg_world.specs.Inquiry.{Inquiry, Done, Ask, Reads, Begun, after, if_ok, ◌>>=◌}
use Rattle.cfg_world.specs.Leaves.{reading_file, looking_up, contents_of}
use Rattle.cfg_world.proofs.Beginnings.{begun_splits}
use Rattle.cfg_exchange.specs.declared.container.ContainerSettings.{ContainerSettings}
use Rattle.cfg_exchange.specs.declared.container.ContainerUri.{ContainerUri}
use Rattle.cfg_exchange.specs.declared.container.ContainerUri.TheVariants as uri
use Rattle.cfg_exchange.specs.declared.full_uri.FullUri.{FullUri}
use Rattle.cfg_exchange.specs.declared.full_uri.FullUri.TheVariants.{Unreadable, Hostless, Schemeless, Secure, AtAddress, AtName}
use Rattle.cfg_exchange.specs.declared.reading.ReplyKind.TheVariants.{Document}
use Rattle.cfg_exchange.specs.declared.target.Target.{Target}
use Rattle.cfg_exchange.specs.Attempts.{asked, attempts}
use Rattle.cfg_exchange.specs.Classifiers.{credentials_repeats, is_repeated}
use Rattle.cfg_exchange.specs.FullUris.{IsRelativeUri, IsFullUri}
use Rattle.cfg_exchange.specs.Targets.{Checked, at_name, full_target}
use Rattle.cfg_exchange.specs.Containers.{Read, token_file, token_text, token_of_file, token_of_bytes, token_by, auth_token, relative_uri, IsUriBy, IsContainerUri, or_full_uri, container_target, answer_keys, credentials_request, credentials_attempts, attempt_limit, fetched_keys, with_token, container}
use Rattle.cfg_exchange.specs.ContainerRequests.{look_up_before, look_ups, IsSafeRequest, IsSafeQuestion}
use Rattle.cfg_exchange.proofs.Checks.{read_begun}
use Rattle.cfg_exchange.proofs.SafeTargets.{target_is_allowed}

-- ---- what one inquiry leaves that only its outcome follows

begun_only : {A B : Type 0} (p : Inquiry A) (g : A → B) (part : List Pair) → Begun (after p (λ x. Done (g x))) part → Begun p part
begun_only (Done x) g [] h = tt
begun_only (Done x) g (e ∷ part) h = absurd h
begun_only (Ask q next) g [] h = tt
begun_only (Ask q next) g (e ∷ part) h = (h.0, begun_only (next e.1) g part h.1)

read_only : {A B : Type 0} (p : Inquiry A) (g : A → B) (part : List Pair) (out : B) → Reads (after p (λ x. Done (g x))) part out → (x : A) × Reads p part x × (g x ≡ out)
read_only (Done x) g [] out h = (x, refl, h)
read_only (Done x) g (e ∷ part) out h = absurd h
read_only (Ask q next) g [] out h = absurd h
read_only (Ask q next) g (e ∷ part) out h = let r = read_only (next e.1) g part out h.1 in (r.0, (h.0, r.1), r.2)

-- ---- the attempts

abbrev AreSent : Request → List Pair → Type 0
AreSent r part = AllByRecursion (λ e. e.0 ≡ Send r) part

sent_on : (more : ℕ) (r : Request) (repeats : Answer → Bool) (given : Answer) (part : List Pair) (b : Bool) →
    (Begun (attempts more (Send r) repeats) part → AreSent r part) → Begun (if b then attempts more (Send r) repeats else Done (Send r, given)) part → AreSent r part
sent_on more r repeats given part true others h = others h
sent_on more r repeats given [] false others h = tt
sent_on more r repeats given (e ∷ part) false others h = absurd h

sent : (more : ℕ) (r : Request) (repeats : Answer → Bool) (part : List Pair) → Begun (attempts more (Send r) repeats) part → AreSent r part
unfolding attempts asked
sent zero r repeats [] h = tt
sent zero r repeats (e ∷ []) h = (h.0, tt)
sent zero r repeats (e ∷ f ∷ part) h = absurd h.1
sent (suc more) r repeats [] h = tt
sent (suc more) r repeats (e ∷ part) h = (h.0, sent_on more r repeats e.1 part (repeats e.1) (sent more r repeats part) h.1)

fetch_sent : (settings : ContainerSettings) (token : Option (List ℕ)) (target : Target) (part : List Pair) → Begun (fetched_keys settings token target) part →
    AreSent (request.Http (credentials_request settings token target)) part
unfolding fetched_keys
fetch_sent settings token target part h =
    let call = credentials_request settings token target in
    sent (attempt_limit settings.sleep - 1) (request.Http call) (is_repeated Document credentials_repeats) part
    (begun_only (credentials_attempts settings call) (λ last. answer_keys last.1) part h)

none_found : (r : Request) (part : List Pair) → AreSent r part → look_ups part ≡ []
none_found r [] h = refl
none_found r (e ∷ part) h = subst (λ q. look_up_before q e.1 (look_ups part) ≡ []) (sym h.0) (none_found r part h.1)

-- ---- the check of a full address

name_found : (dns : Bool) (target : Target) (host : List ℕ) (part rest : List Pair) → Begun (at_name dns target host) part → look_ups rest ≡ [] → look_ups (part ++ rest) ≡ part
unfolding looking_up
name_found dns target host [] rest h n = n
name_found false target host (x ∷ part) rest h n = absurd h
name_found true target host (x ∷ []) rest h n = subst (λ q. look_up_before q x.1 (look_ups rest) ≡ (q, x.1) ∷ []) (sym h.0) (ap (λ t. (LookUp host, x.1) ∷ t) n)
name_found true target host (x ∷ y ∷ part) rest h n = absurd h.1

found_in : (dns : Bool) (named : FullUri) (part rest : List Pair) → Begun (full_target dns named) part → look_ups rest ≡ [] → look_ups (part ++ rest) ≡ part
unfolding full_target
found_in dns Unreadable [] rest h n = n
found_in dns Unreadable (x ∷ part) rest h n = absurd h
found_in dns Hostless [] rest h n = n
found_in dns Hostless (x ∷ part) rest h n = absurd h
found_in dns Schemeless [] rest h n = n
found_in dns Schemeless (x ∷ part) rest h n = absurd h
found_in dns (Secure target) [] rest h n = n
found_in dns (Secure target) (x ∷ part) rest h n = absurd h
found_in dns (AtAddress target address) [] rest h n = n
found_in dns (AtAddress target address) (x ∷ part) rest h n = absurd h
found_in dns (AtName target host) part rest h n = name_found dns target host part rest h n

module _ (env : Variables) (found : List Pair) where
  abbrev AreSafe : List Pair → Type 0
  AreSafe part = AllByRecursion (λ e. IsSafeQuestion env found e.0) part

  sent_safe : (r : Request) (part : List Pair) → IsSafeRequest env found r → AreSent r part → AreSafe part
  sent_safe r [] s h = tt
  sent_safe r (e ∷ part) s h = (subst (λ q. IsSafeQuestion env found q) (sym h.0) s, sent_safe r part s h.1)

  safe_append : (one other : List Pair) → AreSafe one → AreSafe other → AreSafe (one ++ other)
  safe_append [] other h k = k
  safe_append (e ∷ one) other h k = (h.0, safe_append one other h.1 k)

  name_safe : (dns : Bool) (target : Target) (host : List ℕ) (part : List Pair) → Begun (at_name dns target host) part → AreSafe part
  unfolding looking_up
  name_safe dns target host [] h = tt
  name_safe false target host (x ∷ part) h = absurd h
  name_safe true target host (x ∷ []) h = (subst (λ q. IsSafeQuestion env found q) (sym h.0) tt, tt)
  name_safe true target host (x ∷ y ∷ part) h = absurd h.1

  check_safe : (dns : Bool) (named : FullUri) (part : List Pair) → Begun (full_target dns named) part → AreSafe part
  unfolding full_target
  check_safe dns Unreadable [] h = tt
  check_safe dns Unreadable (x ∷ part) h = absurd h
  check_safe dns Hostless [] h = tt
  check_safe dns Hostless (x ∷ part) h = absurd h
  check_safe dns Schemeless [] h = tt
  check_safe dns Schemeless (x ∷ part) h = absurd h
  check_safe dns (Secure target) [] h = tt
  check_safe dns (Secure target) (x ∷ part) h = absurd h
  check_safe dns (AtAddress target address) [] h = tt
  check_safe dns (AtAddress target address) (x ∷ part) h = absurd h
  check_safe dns (AtName target host) part h = name_safe dns target host part h

-- ---- the address

same_relative : (a b : Target) → uri.Relative a ≡ uri.Relative b → a ≡ b
same_relative a b e = cc

same_text : (a b : List ℕ) (m n : FullUri) → uri.Full a m ≡ uri.Full b n → a ≡ b
same_text a b m n e = cc

same_named : (a b : List ℕ) (m n : FullUri) → uri.Full a m ≡ uri.Full b n → m ≡ n
same_named a b m n e = cc

not_relative : (target : Target) (text : List ℕ) (named : FullUri) → uri.Relative target ≡ uri.Full text named → ⊥
not_relative target text named e = absurd cc

at_agent : (text : List ℕ) (target : Target) (given : Option Target) → IsRelativeUri (encode_utf8_all text) given → uri.Relative target ≡ relative_uri text given →
    target.endpoint ≡ codes "http://169.254.170.2"
at_agent text target None h e = absurd cc
at_agent text target (Some given) h e = ap (λ t. t.endpoint) (same_relative target given e ∙ h.is)

agent_by : (relative full : Option (List ℕ)) (target : Target) → IsUriBy relative full (uri.Relative target) → target.endpoint ≡ codes "http://169.254.170.2"
agent_by (Some text) full target h = at_agent text target h.0 h.1 h.2
agent_by None (Some text) target h = absurd (not_relative target text h.0 h.2)
agent_by None None target h = absurd cc

not_full : (text other : List ℕ) (named : FullUri) (given : Option Target) → uri.Full text named ≡ relative_uri other given → ⊥
not_full text other named None e = absurd cc
not_full text other named (Some target) e = absurd cc

full_by : (relative full : Option (List ℕ)) (text : List ℕ) (named : FullUri) → IsUriBy relative full (uri.Full text named) → (full ≡ Some text) × IsFullUri (encode_utf8_all text) named
full_by (Some other) full text named h = absurd (not_full text other named h.0 h.2)
full_by None (Some other) text named h =
    let text_is = sym (same_text text other named h.0 h.2) in
    (ap Some text_is, subst (λ t. IsFullUri (encode_utf8_all t) named) text_is (subst (λ m. IsFullUri (encode_utf8_all other) m) (sym (same_named text other named h.0 h.2)) h.1))
full_by None None text named h = absurd cc

abbrev read_as : Target → Read Target
read_as target = Ok target

abbrev checked_as : Target → Checked
checked_as target = Ok target

same_target : (a b : Target) → read_as a ≡ read_as b → a ≡ b
same_target a b e = cc

allowed_only : (text : List ℕ) (checked : Checked) (target : Target) → or_full_uri text checked ≡ Ok target → checked ≡ Ok target
allowed_only text (Ok given) target h = ap checked_as (same_target given target h)
allowed_only text (Err e) target h = absurd cc

module _ (env : Variables) (settings : ContainerSettings) (named : ContainerUri) (names : IsContainerUri env named) where
  abbrev Safe : List Pair → Type 0
  Safe part = AreSafe env (look_ups part) part

  behind_check : (token : Option (List ℕ)) (text : List ℕ) (full : FullUri) (part one rest : List Pair) (out : Read Target) (checked : Checked) →
      readable env (codes "AWS_CONTAINER_CREDENTIALS_FULL_URI") ≡ Some text → IsFullUri (encode_utf8_all text) full → part ≡ one ++ rest →
      Reads (full_target settings.dns full) one checked → or_full_uri text checked ≡ out → Begun (if_ok (fetched_keys settings token) out) rest → AreSafe env (look_ups part) rest
  behind_check token text full part one [] (Err e) checked v f p r o h = tt
  behind_check token text full part one (x ∷ rest) (Err e) checked v f p r o h = absurd h
  behind_check token text full part one rest (Ok target) checked v f p r o h =
      let sends = fetch_sent settings token target rest h in
      let reads = subst (λ c. Reads (full_target settings.dns full) one c) (allowed_only text checked target o) r in
      let allowed = target_is_allowed (encode_utf8_all text) settings.dns target full one f reads in
      let begun = read_begun (full_target settings.dns full) one checked r in
      let found : look_ups part ≡ one = ap look_ups p ∙ found_in settings.dns full one rest begun (none_found _ rest sends) in
      subst (λ l. AreSafe env l rest) (sym found) (sent_safe env one _ rest (inr (text, v, allowed)) sends)

  full_safe : (token : Option (List ℕ)) (text : List ℕ) (full : FullUri) (part : List Pair) → named ≡ uri.Full text full →
      Begun (after (after (full_target settings.dns full) (λ checked. Done (or_full_uri text checked))) (if_ok (fetched_keys settings token))) part → Safe part
  full_safe token text full part e h =
      let given =
      full_by (readable env (codes "AWS_CONTAINER_CREDENTIALS_RELATIVE_URI")) (readable env (codes "AWS_CONTAINER_CREDENTIALS_FULL_URI")) text full
      (subst (λ m. IsContainerUri env m) e names) in
      elim (begun_splits (after (full_target settings.dns full) (λ checked. Done (or_full_uri text checked))) (if_ok (fetched_keys settings token)) part h) [
        | inl b ↦ check_safe env (look_ups part) settings.dns full part (begun_only (full_target settings.dns full) (or_full_uri text) part b)
        | inr s ↦
            let r = read_only (full_target settings.dns full) (or_full_uri text) s.0 s.2 s.4 in
            let checks = check_safe env (look_ups part) settings.dns full s.0 (read_begun (full_target settings.dns full) s.0 r.0 r.1) in
            subst (λ p. AreSafe env (look_ups part) p) (sym s.3)
            (safe_append env (look_ups part) s.0 s.1 checks (behind_check token text full part s.0 s.1 s.2 r.0 given.0 given.1 s.3 r.1 r.2 s.5))
      ]

  address_safe : (token : Option (List ℕ)) (place : ContainerUri) (part : List Pair) → named ≡ place → Begun (container_target settings.dns place >>= fetched_keys settings token) part → Safe part
  unfolding container_target
  address_safe token uri.NotSet [] e h = tt
  address_safe token uri.NotSet (x ∷ part) e h = absurd h
  address_safe token (uri.Relative target) part e h =
      let agent =
      agent_by (readable env (codes "AWS_CONTAINER_CREDENTIALS_RELATIVE_URI")) (readable env (codes "AWS_CONTAINER_CREDENTIALS_FULL_URI")) target
      (subst (λ m. IsContainerUri env m) e names) in
      sent_safe env (look_ups part) _ part (inl agent) (fetch_sent settings token target part h)
  address_safe token (uri.NoRelative text) [] e h = tt
  address_safe token (uri.NoRelative text) (x ∷ part) e h = absurd h
  address_safe token (uri.Full text full) part e h = full_safe token text full part e h

  behind_token : (token : Read (Option (List ℕ))) (part : List Pair) → Begun (if_ok (with_token settings named) token) part → Safe part
  behind_token (Ok token) part h = address_safe token named part refl h
  behind_token (Err e) [] h = tt
  behind_token (Err e) (x ∷ part) h = absurd h

  token_safe : (file text : Option (List ℕ)) (part : List Pair) → Begun (token_by file text >>= with_token settings named) part → Safe part
  unfolding reading_file
  token_safe (Some path) text [] h = tt
  token_safe (Some path) text (x ∷ rest) h =
      subst (λ q. IsSafeQuestion env (look_up_before q x.1 (look_ups rest)) q × AreSafe env (look_up_before q x.1 (look_ups rest)) rest) (sym h.0)
      (tt, behind_token (token_of_file path (contents_of x.1)) rest h.1)
  token_safe None text part h = behind_token (token_of_bytes (option_map encode_utf8_all text)) part h

  pub requests_safe : (part : List Pair) → Begun (container env settings named) part → Safe part
  unfolding container auth_token
  requests_safe part h = token_safe (token_file env) (token_text env) part h
