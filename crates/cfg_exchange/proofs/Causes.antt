-- A container's answer has its cause.
use Rattle.std.proofs.Common.{◌≡◌, ℕ, List, [], ◌∷◌, ◌++◌, Bool, true, false, Option, Some, None, refl, sym, ap, subst, ◌∙◌}
use Rattle.std.specs.Option.{option_or}
use Rattle.std.specs.Result.{result_err}
use Rattle.std.specs.Prelude.{Result, Ok, Err, ◌-◌, option_map, if◌then◌else◌}
use Rattle.std.specs.List.{AllByRecursion, list_all}
use Rattle.std.specs.Str.{encode_utf8_all}
use Rattle.cfg_base.specs.declared.address.Address.{Address}
use Rattle.cfg_types.specs.Keys.{Keys}
use Rattle.cfg_types.specs.Environment.{Variables}
use Rattle.cfg_types.specs.declared.errors.CredentialsError.{CredentialsError}
use Rattle.cfg_types.specs.declared.errors.CredentialsError.TheVariants.{InvalidConfiguration}
use Rattle.cfg_types.specs.declared.errors.ConfigCause.TheVariants as config
use Rattle.cfg_types.specs.declared.errors.container.InvalidFullUriError.{InvalidFullUriError}
use Rattle.cfg_types.specs.declared.errors.container.InvalidFullUriError.TheVariants as invalid
use Rattle.cfg_types.specs.declared.request.Request.{Request}
use Rattle.cfg_types.specs.declared.request.Request.TheVariants as request
use Rattle.cfg_types.specs.declared.reply.FailKind.{FailKind}
use Rattle.cfg_world.specs.declared.ask.Question.{Question}
use Rattle.cfg_world.specs.declared.ask.Question.TheVariants.{Read, Send}
use Rattle.cfg_world.specs.declared.ask.Answer.{Answer}
use Rattle.cfg_world.specs.Fits.{Pair}
use Rattle.cfg_world.specs.Inquiry.{Inquiry, Done, Reads, after, if_ok, ◌>>=◌}
use Rattle.cfg_world.specs.Leaves.{reading_file, looking_up, contents_of, addresses_of}
use Rattle.cfg_world.proofs.Inquiries.{split_after}
use Rattle.cfg_exchange.specs.declared.container.ContainerSettings.{ContainerSettings}
use Rattle.cfg_exchange.specs.declared.container.ContainerUri.{ContainerUri}
use Rattle.cfg_exchange.specs.declared.container.ContainerUri.TheVariants as uri
use Rattle.cfg_exchange.specs.declared.full_uri.FullUri.{FullUri}
use Rattle.cfg_exchange.specs.declared.full_uri.FullUri.TheVariants.{Unreadable, Hostless, Schemeless, Secure, AtAddress, AtName}
use Rattle.cfg_exchange.specs.declared.reading.ReplyKind.TheVariants.{Document}
use Rattle.cfg_exchange.specs.declared.target.Target.{Target}
use Rattle.cfg_exchange.specs.Addresses.{is_allowed}
use Rattle.cfg_exchange.specs.Attempts.{attempts}
use Rattle.cfg_exchange.specs.Classifiers.{credentials_repeats, is_repeated}
use Rattle.cfg_exchange.specs.HeaderValues.{is_header_value}
use Rattle.cfg_exchange.specs.Targets.{Checked, allowed_if, looked_up, at_name, full_target}
use Rattle.cfg_exchange.specs.Containers.{token_of_file, token_by, token_file, token_text, auth_token, or_full_uri, container_target, answer_keys, credentials_request, credentials_attempts, attempt_limit, fetched_keys, with_token, container}
use Rattle.cfg_exchange.specs.ContainerCauses.{last_answer, sent_or, held_fault, token_fault_by, found_fault, full_fault, address_fault, fault_of_answer, answer_fault, why_container}
use Rattle.cfg_exchange.proofs.Pieces.{attempts_piece}

abbrev Given : Type 0
Given = Result Keys CredentialsError

-- ---- the attempts

later_one : (q : Question) (r : Request) (a x : Answer) → q ≡ Send r → sent_or q a (Some x) ≡ Some x
later_one q r a x e = subst (λ p. sent_or p a (Some x) ≡ Some x) (sym e) refl

last_is : (r : Request) (repeats : Answer → Bool) (before : List Pair) (last : Pair) →
    AllByRecursion (λ e. (e.0 ≡ Send r) × (repeats e.1 ≡ true)) before → last.0 ≡ Send r → last_answer (before ++ last ∷ []) ≡ Some last.1
last_is r repeats [] last each asks = subst (λ q. sent_or q last.1 None ≡ Some last.1) (sym asks) refl
last_is r repeats (e ∷ before) last each asks = ap (sent_or e.0 e.1) (last_is r repeats before last each.1 asks) ∙ later_one e.0 r e.1 last.1 each.0.0

piece_answer : (more : ℕ) (r : Request) (repeats : Answer → Bool) (part : List Pair) (last : Pair) → Reads (attempts more (Send r) repeats) part last → last_answer part ≡ Some last.1
piece_answer more r repeats part last h =
    let p = attempts_piece more (Send r) repeats part last h in
    ap last_answer p.parts ∙ last_is r repeats p.before last p.each p.asks

nothing_more : (part rest : List Pair) (given out : Given) → Reads (Done given) rest out → (part ++ rest ≡ part) × (given ≡ out)
nothing_more [] [] given out h = (refl, h)
nothing_more (e ∷ part) [] given out h = (ap (λ t. e ∷ t) (nothing_more part [] given out h).0, h)
nothing_more part (x ∷ rest) given out h = absurd h

fetched_cause : (settings : ContainerSettings) (token : Option (List ℕ)) (target : Target) (part : List Pair) (out : Given) →
    Reads (fetched_keys settings token target) part out → result_err out ≡ answer_fault part
unfolding fetched_keys
fetched_cause settings token target part out h =
    let call = credentials_request settings token target in
    let s = split_after (credentials_attempts settings call) (λ last. Done (answer_keys last.1)) part out h in
    let n = nothing_more s.part s.rest (answer_keys s.middle.1) out s.then in
    let found = piece_answer (attempt_limit settings.sleep - 1) (request.Http call) (is_repeated Document credentials_repeats) s.part s.middle s.first in
    ap result_err (sym n.1) ∙ ap fault_of_answer (sym found) ∙ ap answer_fault (sym n.0 ∙ sym s.parts)

-- ---- the address

module _ (settings : ContainerSettings) (token : Option (List ℕ)) (out : Given) where
  -- what follows the check of a full address
  abbrev onwards : List ℕ → Checked → Inquiry Given
  onwards text checked = if_ok (fetched_keys settings token) (or_full_uri text checked)

  refused_uri : (text : List ℕ) (e : InvalidFullUriError) (rest : List Pair) (others : Option CredentialsError) → Reads (onwards text (Err e)) rest out →
      result_err out ≡ option_or (option_map (λ e. InvalidConfiguration (config.FullUri e text)) (Some e)) others
  refused_uri text e [] others h = ap result_err (sym h)
  refused_uri text e (x ∷ rest) others h = absurd h

  allowed_uri : (text : List ℕ) (target : Target) (b : Bool) (rest : List Pair) → Reads (onwards text (allowed_if target b)) rest out →
      result_err out ≡ option_or (option_map (λ e. InvalidConfiguration (config.FullUri e text)) (if b then None else Some invalid.DisallowedIP)) (answer_fault rest)
  allowed_uri text target true rest h = fetched_cause settings token target rest out h
  allowed_uri text target false rest h = refused_uri text invalid.DisallowedIP rest (answer_fault rest) h

  found_uri : (text : List ℕ) (target : Target) (found : Result (List Address) FailKind) (rest : List Pair) → Reads (onwards text (looked_up target found)) rest out →
      result_err out ≡ option_or (option_map (λ e. InvalidConfiguration (config.FullUri e text)) (found_fault (Some found))) (answer_fault rest)
  found_uri text target (Ok addresses) rest h = allowed_uri text target (list_all is_allowed addresses) rest h
  found_uri text target (Err kind) rest h = refused_uri text invalid.DnsLookupFailed rest (answer_fault rest) h

  abbrev IsCause : ContainerUri → List Pair → Type 0
  IsCause named part = result_err out ≡ option_or (address_fault settings.dns named part) (answer_fault part)

  name_cause : (text : List ℕ) (d : Bool) (target : Target) (host : List ℕ) (part : List Pair) →
      Reads (after (after (at_name d target host) (λ checked. Done (or_full_uri text checked))) (if_ok (fetched_keys settings token))) part out →
      result_err out ≡ option_or (option_map (λ e. InvalidConfiguration (config.FullUri e text)) (full_fault d (AtName target host) part)) (answer_fault part)
  unfolding looking_up
  name_cause text false target host part h = refused_uri text invalid.NoDnsResolver part (answer_fault part) h
  name_cause text true target host [] h = absurd h
  name_cause text true target host (x ∷ rest) h =
      subst (λ q. result_err out ≡ option_or (option_map (λ e. InvalidConfiguration (config.FullUri e text)) (full_fault true (AtName target host) ((q, x.1) ∷ rest))) (answer_fault ((q, x.1) ∷ rest))) (sym h.0)
      (found_uri text target (addresses_of x.1) rest h.1)

  full_cause : (text : List ℕ) (named : FullUri) (part : List Pair) →
      Reads (after (after (full_target settings.dns named) (λ checked. Done (or_full_uri text checked))) (if_ok (fetched_keys settings token))) part out →
      IsCause (uri.Full text named) part
  unfolding full_target
  full_cause text Unreadable part h = refused_uri text invalid.InvalidUri part (answer_fault part) h
  full_cause text Hostless part h = refused_uri text invalid.MissingHost part (answer_fault part) h
  full_cause text Schemeless part h = refused_uri text invalid.InvalidUri part (answer_fault part) h
  full_cause text (Secure target) part h = fetched_cause settings token target part out h
  full_cause text (AtAddress target address) part h = allowed_uri text target (is_allowed address) part h
  full_cause text (AtName target host) part h = name_cause text settings.dns target host part h

  address_cause : (named : ContainerUri) (part : List Pair) → Reads (container_target settings.dns named >>= fetched_keys settings token) part out → IsCause named part
  unfolding container_target
  address_cause uri.NotSet [] h = ap result_err (sym h)
  address_cause uri.NotSet (x ∷ part) h = absurd h
  address_cause (uri.Relative target) part h = fetched_cause settings token target part out h
  address_cause (uri.NoRelative text) [] h = ap result_err (sym h)
  address_cause (uri.NoRelative text) (x ∷ part) h = absurd h
  address_cause (uri.Full text named) part h = full_cause text named part h

-- ---- the token

-- a reading of a file says nothing of the address
past_full : (dns : Bool) (named : FullUri) (path : List ℕ) (a : Answer) (rest : List Pair) → full_fault dns named ((Read path, a) ∷ rest) ≡ full_fault dns named rest
past_full dns Unreadable path a rest = refl
past_full dns Hostless path a rest = refl
past_full dns Schemeless path a rest = refl
past_full dns (Secure target) path a rest = refl
past_full dns (AtAddress target address) path a rest = refl
past_full dns (AtName target host) path a rest = refl

past_file : (dns : Bool) (named : ContainerUri) (path : List ℕ) (a : Answer) (rest : List Pair) → address_fault dns named ((Read path, a) ∷ rest) ≡ address_fault dns named rest
past_file dns uri.NotSet path a rest = refl
past_file dns (uri.Relative target) path a rest = refl
past_file dns (uri.NoRelative text) path a rest = refl
past_file dns (uri.Full text named) path a rest = ap (option_map (λ e. InvalidConfiguration (config.FullUri e text))) (past_full dns named path a rest)

module _ (settings : ContainerSettings) (named : ContainerUri) (out : Given) where
  abbrev others : List Pair → Option CredentialsError
  others part = option_or (address_fault settings.dns named part) (answer_fault part)

  checked_cause : (bytes : List ℕ) (b : Bool) (rest : List Pair) →
      Reads (if_ok (with_token settings named) (if b then Ok (Some bytes) else Err (InvalidConfiguration config.AuthToken))) rest out →
      result_err out ≡ option_or (if b then None else Some (InvalidConfiguration config.AuthToken)) (others rest)
  checked_cause bytes true rest h = address_cause settings (Some bytes) out named rest h
  checked_cause bytes false [] h = ap result_err (sym h)
  checked_cause bytes false (x ∷ rest) h = absurd h

  held_cause : (path : List ℕ) (held : Result (List ℕ) FailKind) (rest : List Pair) → Reads (if_ok (with_token settings named) (token_of_file path held)) rest out →
      result_err out ≡ option_or (held_fault path (Some held)) (others rest)
  held_cause path (Ok bytes) rest h = checked_cause bytes (is_header_value bytes) rest h
  held_cause path (Err kind) [] h = ap result_err (sym h)
  held_cause path (Err kind) (x ∷ rest) h = absurd h

  token_cause : (file text : Option (List ℕ)) (part : List Pair) → Reads (token_by file text >>= with_token settings named) part out →
      result_err out ≡ option_or (token_fault_by file text part) (others part)
  unfolding reading_file
  token_cause (Some path) text [] h = absurd h
  token_cause (Some path) text (x ∷ rest) h =
      subst (λ q. result_err out ≡ option_or (token_fault_by (Some path) text ((q, x.1) ∷ rest)) (others ((q, x.1) ∷ rest))) (sym h.0)
      (held_cause path (contents_of x.1) rest h.1
      ∙ ap (λ f. option_or (held_fault path (Some (contents_of x.1))) (option_or f (answer_fault rest))) (sym (past_file settings.dns named path x.1 rest)))
  token_cause None (Some text) part h = checked_cause (encode_utf8_all text) (is_header_value (encode_utf8_all text)) part h
  token_cause None None part h = address_cause settings None out named part h

pub has_cause : (env : Variables) (settings : ContainerSettings) (named : ContainerUri) (part : List Pair) (out : Given) →
    Reads (container env settings named) part out → result_err out ≡ why_container env settings named part
unfolding container auth_token
has_cause env settings named part out h = token_cause settings named out (token_file env) (token_text env) part h
