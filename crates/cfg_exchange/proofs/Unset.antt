-- A container is passed over exactly where nothing says where its credentials are.
use Rattle.std.proofs.Common.{◌≡◌, ℕ, List, [], ◌∷◌, Bool, true, false, Option, Some, None, refl, sym, ap, subst, ◌∙◌}
use Rattle.std.specs.Option.{option_or}
use Rattle.std.specs.Result.{result_err}
use Rattle.std.specs.Prelude.{Result, Ok, Err, codes, option_map, if◌then◌else◌}
use Rattle.std.specs.Str.{encode_utf8_all}
use Rattle.cfg_types.specs.Keys.{Keys}
use Rattle.cfg_types.specs.Classes.{is_of_class, is_not_loaded_answer}
use Rattle.cfg_types.specs.Environment.{Variables, readable}
use Rattle.cfg_types.specs.declared.errors.Class.TheVariants as class
use Rattle.cfg_types.specs.declared.errors.CredentialsError.{CredentialsError}
use Rattle.cfg_types.specs.declared.errors.CredentialsError as errors
use denote.Hole.Carrier as carrier
use Rattle.cfg_types.specs.declared.errors.CredentialsError.TheVariants.{InvalidConfiguration, ProviderError}
use Rattle.cfg_types.specs.declared.errors.ConfigCause.TheVariants as config
use Rattle.cfg_types.specs.declared.errors.ProviderCause.TheVariants.{Status}
use Rattle.cfg_types.specs.declared.errors.UnhandledCause.{UnhandledCause}
use Rattle.cfg_types.specs.declared.errors.container.InvalidFullUriError.{InvalidFullUriError}
use Rattle.cfg_types.specs.declared.reply.FailKind.{FailKind}
use Rattle.cfg_types.specs.declared.reply.http.HttpReply.{HttpReply}
use Rattle.cfg_json.specs.declared.credentials.JsonCredentials.{JsonCredentials}
use Rattle.cfg_json.specs.declared.credentials.JsonCredentials.TheVariants as says
use Rattle.cfg_world.specs.declared.ask.Question.TheVariants.{Read as ReadFile}
use Rattle.cfg_world.specs.declared.ask.Answer.{Answer}
use Rattle.cfg_world.specs.Fits.{Pair}
use Rattle.cfg_world.specs.Inquiry.{Reads, if_ok, ◌>>=◌}
use Rattle.cfg_world.specs.Leaves.{reading_file, http_of, contents_of}
use Rattle.cfg_exchange.specs.declared.container.ContainerSettings.{ContainerSettings}
use Rattle.cfg_exchange.specs.declared.container.ContainerUri.{ContainerUri}
use Rattle.cfg_exchange.specs.declared.container.ContainerUri.TheVariants as uri
use Rattle.cfg_exchange.specs.declared.full_uri.FullUri.{FullUri}
use Rattle.cfg_exchange.specs.declared.target.Target.{Target}
use Rattle.cfg_exchange.specs.Documents.{body_document}
use Rattle.cfg_exchange.specs.HeaderValues.{is_header_value}
use Rattle.cfg_exchange.specs.Readings.{is_success}
use Rattle.cfg_exchange.specs.Containers.{Read, token_file, token_text, token_of_file, token_of_bytes, token_by, auth_token, relative_uri, IsUriBy, IsContainerUri, container_target, said_keys, reply_keys, sent_keys, answer_keys, with_token, container}
use Rattle.cfg_exchange.specs.ContainerCauses.{file_read, last_answer, held_fault, token_fault_by, token_fault, full_fault, address_fault, fault_of_answer, answer_fault, why_container}
use Rattle.cfg_exchange.specs.ContainerUnset.{IsTokenPart, IsUnset}
use Rattle.cfg_exchange.proofs.Causes.{has_cause}

abbrev Given : Type 0
Given = Result Keys CredentialsError

abbrev Cause : Type 0
Cause = Option CredentialsError

abbrev is_unset_cause : Cause → Bool
is_unset_cause None = false
is_unset_cause (Some e) = is_of_class class.CredentialsNotLoaded e

clash : false ≡ true → ⊥
clash h = absurd cc

by_cause : (out : Given) → is_not_loaded_answer out ≡ is_unset_cause (result_err out)
by_cause (Ok keys) = refl
by_cause (Err e) = refl

-- ---- no cause but one is that nothing is set

bytes_plain : (b : Bool) → is_unset_cause (if b then None else Some (InvalidConfiguration config.AuthToken)) ≡ false
unfolding errors.out-CredentialsError carrier.out
bytes_plain true = refl
bytes_plain false = refl

held_plain : (path : List ℕ) (held : Option (Result (List ℕ) FailKind)) → is_unset_cause (held_fault path held) ≡ false
unfolding errors.out-CredentialsError carrier.out
held_plain path None = refl
held_plain path (Some (Ok bytes)) = bytes_plain (is_header_value bytes)
held_plain path (Some (Err kind)) = refl

token_plain : (file text : Option (List ℕ)) (part : List Pair) → is_unset_cause (token_fault_by file text part) ≡ false
token_plain (Some path) text part = held_plain path (file_read part)
token_plain None (Some text) part = bytes_plain (is_header_value (encode_utf8_all text))
token_plain None None part = refl

said_plain : (said : Result JsonCredentials UnhandledCause) → is_unset_cause (result_err (said_keys said)) ≡ false
unfolding errors.out-CredentialsError carrier.out
said_plain (Ok (says.RefreshableCredentials id secret token account end)) = refl
said_plain (Ok (says.Error code message)) = refl
said_plain (Err cause) = refl

reply_plain : (b : Bool) (status : ℕ) (said : Result JsonCredentials UnhandledCause) →
    is_unset_cause (result_err (if b then said_keys said else Err (ProviderError (Status status)))) ≡ false
unfolding errors.out-CredentialsError carrier.out
reply_plain true status said = said_plain said
reply_plain false status said = refl

sent_plain : (r : Result HttpReply FailKind) → is_unset_cause (result_err (sent_keys r)) ≡ false
unfolding reply_keys errors.out-CredentialsError carrier.out
sent_plain (Ok reply) = reply_plain (is_success reply.status) reply.status (body_document reply.body)
sent_plain (Err kind) = refl

answer_plain : (given : Option Answer) → is_unset_cause (fault_of_answer given) ≡ false
unfolding answer_keys
answer_plain None = refl
answer_plain (Some given) = sent_plain (http_of given)

full_plain : (text : List ℕ) (e : Option InvalidFullUriError) (others : Cause) → is_unset_cause others ≡ false →
    is_unset_cause (option_or (option_map (λ e. InvalidConfiguration (config.FullUri e text)) e) others) ≡ false
unfolding errors.out-CredentialsError carrier.out
full_plain text None others f = f
full_plain text (Some e) others f = refl

past_plain : (first others : Cause) → is_unset_cause first ≡ false → is_unset_cause (option_or first others) ≡ true → (first ≡ None) × (is_unset_cause others ≡ true)
past_plain None others f t = (refl, t)
past_plain (Some e) others f t = absurd (clash (sym f ∙ t))

address_unset : (dns : Bool) (named : ContainerUri) (part : List Pair) (others : Cause) → is_unset_cause others ≡ false →
    is_unset_cause (option_or (address_fault dns named part) others) ≡ true → named ≡ uri.NotSet
unfolding errors.out-CredentialsError carrier.out
address_unset dns uri.NotSet part others f t = refl
address_unset dns (uri.Relative target) part others f t = absurd (clash (sym f ∙ t))
address_unset dns (uri.NoRelative text) part others f t = absurd (clash t)
address_unset dns (uri.Full text named) part others f t = absurd (clash (sym (full_plain text (full_fault dns named part) others f) ∙ t))

-- ---- the variables

no_relative : (text : List ℕ) (target : Option Target) → uri.NotSet ≡ relative_uri text target → ⊥
no_relative text None h = absurd cc
no_relative text (Some target) h = absurd cc

no_full : (text : List ℕ) (named : FullUri) → uri.NotSet ≡ uri.Full text named → ⊥
no_full text named h = absurd cc

unset_by : (relative full : Option (List ℕ)) → IsUriBy relative full uri.NotSet → (relative ≡ None) × (full ≡ None)
unset_by (Some text) full h = absurd (no_relative text h.0 h.2)
unset_by None (Some text) h = absurd (no_full text h.0 h.2)
unset_by None None h = (refl, refl)

by_unset : (relative full : Option (List ℕ)) (named : ContainerUri) → relative ≡ None → full ≡ None → IsUriBy relative full named → named ≡ uri.NotSet
by_unset relative full named r f h = subst (λ x. IsUriBy None x named) f (subst (λ x. IsUriBy x full named) r h)

-- ---- the part

abbrev Token : Type 0
Token = Option (List ℕ)

unset_rest : (settings : ContainerSettings) (token : Read Token) (rest : List Pair) (out : Given) → Reads (if_ok (with_token settings uri.NotSet) token) rest out → rest ≡ []
unfolding container_target
unset_rest settings (Ok token) [] out h = refl
unset_rest settings (Ok token) (x ∷ rest) out h = absurd h
unset_rest settings (Err e) [] out h = refl
unset_rest settings (Err e) (x ∷ rest) out h = absurd h

token_part : (settings : ContainerSettings) (file text : Option (List ℕ)) (part : List Pair) (out : Given) →
    Reads (token_by file text >>= with_token settings uri.NotSet) part out → IsTokenPart file part
unfolding reading_file
token_part settings (Some path) text [] out h = absurd h
token_part settings (Some path) text (x ∷ rest) out h = (
  x.1,
  ap (λ q. (q, x.1) ∷ rest) h.0 ∙ ap (λ r. (ReadFile path, x.1) ∷ r) (unset_rest settings (token_of_file path (contents_of x.1)) rest out h.1),
)
token_part settings None text part out h = unset_rest settings (token_of_bytes (option_map encode_utf8_all text)) part out h

module _ (env : Variables) (settings : ContainerSettings) (named : ContainerUri) (part : List Pair) (out : Given) (names : IsContainerUri env named) (reads : Reads (container env settings named) part out) where
  abbrev relative_text : Option (List ℕ)
  relative_text = readable env (codes "AWS_CONTAINER_CREDENTIALS_RELATIVE_URI")

  abbrev full_text : Option (List ℕ)
  full_text = readable env (codes "AWS_CONTAINER_CREDENTIALS_FULL_URI")

  caused : is_not_loaded_answer out ≡ is_unset_cause (why_container env settings named part)
  caused = by_cause out ∙ ap is_unset_cause (has_cause env settings named part out reads)

  pub passed_over : is_not_loaded_answer out ≡ true → IsUnset env part
  unfolding container auth_token
  passed_over p =
      let token =
      past_plain (token_fault env part) (option_or (address_fault settings.dns named part) (answer_fault part)) (token_plain (token_file env) (token_text env) part) (sym caused ∙ p) in
      let unset = address_unset settings.dns named part (answer_fault part) (answer_plain (last_answer part)) token.1 in
      let variables = unset_by relative_text full_text (subst (λ m. IsContainerUri env m) unset names) in
      record {
        token = token.0;
        relative = variables.0;
        full = variables.1;
        asks = token_part settings (token_file env) (token_text env) part out (subst (λ m. Reads (container env settings m) part out) unset reads);
      }

  pub unset_passed : IsUnset env part → is_not_loaded_answer out ≡ true
  unfolding errors.out-CredentialsError carrier.out
  unset_passed u =
      caused
      ∙ ap (λ t. is_unset_cause (option_or t (option_or (address_fault settings.dns named part) (answer_fault part)))) u.token
      ∙ ap (λ m. is_unset_cause (option_or (address_fault settings.dns m part) (answer_fault part))) (by_unset relative_text full_text named u.relative u.full names)
