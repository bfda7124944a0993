-- A container that can be asked gives credentials over answers of use.
use Rattle.std.proofs.Common.{◌≡◌, ℕ, List, [], ◌∷◌, ◌++◌, Bool, true, Option, Some, None, Result, Ok, Err, refl, ap, ◌∙◌, subst, append-nil}
use Rattle.std.specs.Prelude.{◌-◌, is_ok, if◌then◌else◌}
use Rattle.std.specs.List.{list_all}
use Rattle.std.specs.Str.{encode_utf8_all}
use Rattle.std.proofs.lemmas.List.Sums.{list_all-from_AllPass}
use Rattle.cfg_base.specs.declared.address.Address.{Address}
use Rattle.cfg_types.specs.Keys.{Keys}
use Rattle.cfg_types.specs.declared.errors.CredentialsError.{CredentialsError}
use Rattle.cfg_types.specs.declared.errors.CredentialsError.TheVariants.{InvalidConfiguration}
use Rattle.cfg_types.specs.declared.errors.ConfigCause.TheVariants.{AuthToken}
use Rattle.cfg_types.specs.declared.request.Request.TheVariants as request
use Rattle.cfg_types.specs.declared.reply.FailKind.{FailKind}
use Rattle.cfg_world.specs.declared.ask.Question.TheVariants as question
use Rattle.cfg_world.specs.Fits.{Pair}
use Rattle.cfg_world.specs.Inquiry.{Done, Reads}
use Rattle.cfg_world.specs.Leaves.{reading_file, looking_up, contents_of, addresses_of}
use Rattle.cfg_world.proofs.Inquiries.{split_after}
use Rattle.cfg_exchange.specs.declared.container.ContainerSettings.{ContainerSettings}
use Rattle.cfg_exchange.specs.declared.container.ContainerUri.{ContainerUri}
use Rattle.cfg_exchange.specs.declared.container.ContainerUri.TheVariants as uri
use Rattle.cfg_exchange.specs.declared.full_uri.FullUri.{FullUri}
use Rattle.cfg_exchange.specs.declared.full_uri.FullUri.TheVariants.{Unreadable, Hostless, Schemeless, Secure, AtAddress, AtName}
use Rattle.cfg_exchange.specs.declared.reading.ReplyKind.TheVariants.{Document}
use Rattle.cfg_exchange.specs.declared.target.Target.{Target}
use Rattle.cfg_exchange.specs.Addresses.{is_allowed}
use Rattle.cfg_exchange.specs.Classifiers.{credentials_repeats, is_repeated}
use Rattle.cfg_exchange.specs.HeaderValues.{is_header_value}
use Rattle.cfg_exchange.specs.Targets.{allowed_if, looked_up, full_target}
use Rattle.cfg_exchange.specs.Containers.{checked_token, token_of_file, token_of_bytes, token_by, token_file, token_text, auth_token, or_full_uri, container_target, answer_keys, credentials_request, credentials_attempts, attempt_limit, fetched_keys, with_token, container}
use Rattle.cfg_exchange.proofs.Pieces.{attempts_piece}
use Rattle.cfg_chain.specs.Settings.{Setting, container_settings}
use Rattle.cfg_chain.specs.profile.Bases.{by_container}
use Rattle.cfg_chain.specs.Valid.{Contents, HoldsHeaderValue, IsOfUse, AreOfUse, AreAllowed, IsFullAddress, IsAddress, HasToken, IsContainer}
use Rattle.cfg_chain.proofs.UsableEntries.{Succeeds, done_succeeds, last_of_use, ask_succeeds, then_succeeds, read_succeeds}

-- ---- the token

checked_fine : (bytes : List ℕ) → is_header_value bytes ≡ true → is_ok (checked_token bytes) ≡ true
checked_fine bytes h = ap (λ b. is_ok (if b then Ok (Some bytes) else Err (InvalidConfiguration AuthToken))) h

held_fine : (path : List ℕ) (held : Contents) → HoldsHeaderValue held → is_ok (token_of_file path held) ≡ true
held_fine path (Ok bytes) h = checked_fine bytes h
held_fine path (Err kind) h = absurd h

pub token_succeeds : (file text : Option (List ℕ)) → HasToken file text → Succeeds HoldsHeaderValue (token_by file text)
unfolding reading_file
token_succeeds (Some path) text h = ask_succeeds HoldsHeaderValue (question.Read path) (λ a. token_of_file path (contents_of a)) (λ a u. held_fine path (contents_of a) u)
token_succeeds None (Some text) h = done_succeeds HoldsHeaderValue (checked_token (encode_utf8_all text)) (checked_fine (encode_utf8_all text) h)
token_succeeds None None h = done_succeeds HoldsHeaderValue (token_of_bytes None) refl

-- ---- the address

allowed_fine : (target : Target) (b : Bool) → b ≡ true → is_ok (allowed_if target b) ≡ true
allowed_fine target b h = ap (λ x. is_ok (allowed_if target x)) h

found_fine : (target : Target) (found : Result (List Address) FailKind) → AreAllowed found → is_ok (looked_up target found) ≡ true
found_fine target (Ok addresses) h = allowed_fine target (list_all is_allowed addresses) (list_all-from_AllPass is_allowed addresses h)
found_fine target (Err kind) h = absurd h

checked_succeeds : (named : FullUri) → IsFullAddress named → Succeeds HoldsHeaderValue (full_target true named)
unfolding full_target looking_up
checked_succeeds Unreadable h = absurd h
checked_succeeds Hostless h = absurd h
checked_succeeds Schemeless h = absurd h
checked_succeeds (Secure target) h = done_succeeds HoldsHeaderValue (Ok target) refl
checked_succeeds (AtAddress target address) h = done_succeeds HoldsHeaderValue (allowed_if target (is_allowed address)) (allowed_fine target (is_allowed address) h)
checked_succeeds (AtName target host) h = ask_succeeds HoldsHeaderValue (question.LookUp host) (λ a. looked_up target (addresses_of a)) (λ a u. found_fine target (addresses_of a) u)

target_succeeds : (named : ContainerUri) → IsAddress named → Succeeds HoldsHeaderValue (container_target true named)
unfolding container_target
target_succeeds uri.NotSet h = absurd h
target_succeeds (uri.Relative target) h = done_succeeds HoldsHeaderValue (Ok target) refl
target_succeeds (uri.NoRelative text) h = absurd h
target_succeeds (uri.Full text named) h = read_succeeds HoldsHeaderValue (full_target true named) (or_full_uri text) (checked_succeeds named h) (λ target. refl)

-- ---- the attempts

answered : (rest : List Pair) (given out : Result Keys CredentialsError) → Reads (Done given) rest out → (rest ≡ []) × (given ≡ out)
answered [] given out h = (refl, h)
answered (x ∷ rest) given out h = absurd h

fetched_succeeds : (settings : ContainerSettings) (token : Option (List ℕ)) (target : Target) → Succeeds HoldsHeaderValue (fetched_keys settings token target)
unfolding fetched_keys
fetched_succeeds settings token target part out h uses =
    let call = credentials_request settings token target in
    let s = split_after (credentials_attempts settings call) (λ last. Done (answer_keys last.1)) part out h in
    let n = answered s.rest (answer_keys s.middle.1) out s.then in
    let p = attempts_piece (attempt_limit settings.sleep - 1) (question.Send (request.Http call)) (is_repeated Document credentials_repeats) s.part s.middle s.first in
    let last = last_of_use HoldsHeaderValue p.before s.middle (subst (AreOfUse HoldsHeaderValue) (s.parts ∙ ap (λ r. s.part ++ r) n.0 ∙ append-nil s.part ∙ p.parts) uses) in
    subst (λ r. is_ok r ≡ true) n.1 (subst (λ q. IsOfUse HoldsHeaderValue q s.middle.1) p.asks last)

-- ---- the whole

pub container_succeeds : (s : Setting) → IsContainer s → Succeeds HoldsHeaderValue (by_container s.configuration s.container)
unfolding container auth_token
container_succeeds s h =
    let env = s.configuration.environment in
    let settings = container_settings s.configuration in
    then_succeeds HoldsHeaderValue (token_by (token_file env) (token_text env)) (with_token settings s.container)
    (token_succeeds (token_file env) (token_text env) h.token)
    (λ token. then_succeeds HoldsHeaderValue (container_target true s.container) (fetched_keys settings token) (target_succeeds s.container h.address) (λ target. fetched_succeeds settings token target))
