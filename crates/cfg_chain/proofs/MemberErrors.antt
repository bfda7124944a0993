-- Each error of a member is one of its line.
use Rattle.std.specs.Option.{option_or}
use Rattle.std.proofs.Common.{◌≡◌, inl, inr, ℕ, List, [], ◌∷◌, ◌++◌, Bool, true, false, Option, Some, None, Result, Ok, Err, option_map, refl, ap, ◌∙◌, subst}
use Rattle.std.specs.Prelude.{IfSome, codes, option_and_then, nat_eq, if◌then◌else◌}
use Rattle.std.specs.List.{last_or}
use Rattle.std.specs.Result.{result_err}
use Rattle.std.specs.Str.{encode_utf8_all, is_utf8, bytes_eq}
use denote.Hole.Carrier as carrier
use Rattle.cfg_base.specs.Gives.{◌>>=◌}
use Rattle.cfg_types.specs.Classes.{is_memory, class_of}
use Rattle.cfg_types.specs.Environment.{Variables, variable, text_read}
use Rattle.cfg_types.specs.Keys.{Keys}
use Rattle.cfg_types.specs.Metadata.{is_dispatch_failure, error_reply}
use Rattle.cfg_types.specs.Replies.{sts_in}
use Rattle.cfg_types.specs.declared.document.InvalidJsonCredentials.{InvalidJsonCredentials}
use Rattle.cfg_types.specs.declared.errors.ConfigCause.TheVariants as config
use Rattle.cfg_types.specs.declared.errors.Class.TheVariants as class
use Rattle.cfg_types.specs.declared.errors.CredentialsError as errors
use Rattle.cfg_types.specs.declared.errors.CredentialsError.{CredentialsError}
use Rattle.cfg_types.specs.declared.errors.CredentialsError.TheVariants.{CredentialsNotLoaded, InvalidConfiguration, ProviderError, ProviderTimedOut}
use Rattle.cfg_types.specs.declared.errors.NotLoadedCause as reasons
use Rattle.cfg_types.specs.declared.errors.NotLoadedCause.TheVariants.{MetadataDisabled, MetadataNoRole, MetadataUnreachable}
use Rattle.cfg_types.specs.declared.errors.ProfileFileError.{ProfileFileError}
use Rattle.cfg_types.specs.declared.errors.ProfileFileError.TheVariants as plan_error
use Rattle.cfg_types.specs.declared.errors.ProviderAttempt.{ProviderAttempt}
use Rattle.cfg_types.specs.declared.errors.ProviderCause as failures
use Rattle.cfg_types.specs.declared.errors.ProviderCause.TheVariants as failure
use Rattle.cfg_types.specs.declared.errors.UnhandledCause.TheVariants as unhandled
use Rattle.cfg_types.specs.declared.errors.container.InvalidFullUriError.{InvalidFullUriError}
use Rattle.cfg_types.specs.declared.errors.imds.ImdsError.{ImdsError}
use Rattle.cfg_types.specs.declared.errors.imds.ImdsError.TheVariants as imds
use Rattle.cfg_types.specs.declared.reply.FailKind.{FailKind}
use Rattle.cfg_types.specs.declared.reply.http.HttpReply.{HttpReply}
use Rattle.cfg_types.specs.declared.reply.sts.StsCredentials.{StsCredentials}
use Rattle.cfg_types.specs.declared.reply.sts.StsReply.{StsReply}
use Rattle.cfg_json.specs.Reading.{utf8_of}
use Rattle.cfg_json.specs.declared.credentials.JsonCredentials.{JsonCredentials}
use Rattle.cfg_json.specs.declared.credentials.JsonCredentials.TheVariants as says
use Rattle.cfg_world.specs.declared.ask.Question.{Question}
use Rattle.cfg_world.specs.declared.ask.Question.TheVariants as question
use Rattle.cfg_world.specs.declared.ask.Answer.{Answer as Given}
use Rattle.cfg_world.specs.declared.ask.Answer.TheVariants as answer
use Rattle.cfg_world.specs.declared.leaves.NotGranted.{NotGranted}
use Rattle.cfg_world.specs.declared.leaves.NotGranted.TheVariants.{Failed, Refused}
use Rattle.cfg_world.specs.Fits.{Pair}
use Rattle.cfg_world.specs.declared.devices.Devices.{Ghosts}
use Rattle.cfg_world.specs.Held.{Held}
use Rattle.cfg_world.specs.Leaves.{granted_of, http_of}
use Rattle.cfg_exchange.specs.declared.container.ContainerUri.{ContainerUri}
use Rattle.cfg_exchange.specs.declared.container.ContainerUri.TheVariants as uri
use Rattle.cfg_exchange.specs.ContainerCauses.{file_read, held_fault, token_fault_by, full_fault, address_fault, last_answer, fault_of_answer}
use Rattle.cfg_exchange.specs.Containers.{token_file, token_text, said_keys, reply_keys, sent_keys, answer_keys}
use Rattle.cfg_exchange.specs.Documents.{or_no_document, document, body_document}
use Rattle.cfg_exchange.specs.HeaderValues.{is_header_value}
use Rattle.cfg_exchange.specs.Readings.{is_success}
use Rattle.cfg_imds.specs.Causes.{why_no_text}
use Rattle.cfg_imds.specs.Clients.{ClientRules}
use Rattle.cfg_imds.specs.Fetches.{entry_text}
use Rattle.cfg_kept.specs.ChainParts.{AreParts}
use Rattle.cfg_kept.specs.Chains.{attempt}
use Rattle.cfg_kept.specs.Kinds.{Value}
use Rattle.cfg_kept.specs.RoleDocuments.{said_role, get_document, role_document}
use Rattle.cfg_imds_credentials.specs.Causes.{first_text, why_document, why_role_by, why_role, why_listed_by, why_by_role, why_nothing, retrieved_in, AnswersBy}
use Rattle.cfg_imds_credentials.specs.Metadata.{listing_path, role_path, get_error, listing_error_by, listing_error, or_found}
use Rattle.cfg_providers.specs.CustomSources.{Answer}
use Rattle.cfg_providers.specs.EnvironmentCauses.{not_unicode, unreadable_variable, missing_variable}
use Rattle.cfg_providers.specs.EnvironmentKeys.{not_set}
use Rattle.cfg_providers.specs.RoleCauses.{first_failure, of_role}
use Rattle.cfg_providers.specs.Sts.{account_of_arn, account_or, keys_in, or_unhandled, into_credentials}
use Rattle.cfg_providers.specs.WebIdentities.{identity_in, why_text, why_file, why_granted, why_answer, why_entry, why_identity}
use Rattle.cfg_providers.specs.declared.web_identity_token.WebIdentity.{WebIdentity}
use Rattle.cfg_chain.specs.declared.member.Member.{Member}
use Rattle.cfg_chain.specs.declared.member.Member.TheVariants.{Environment, Profile, WebIdentityToken, EcsContainer, Ec2InstanceMetadata}
use Rattle.cfg_chain.specs.Causes.{Cause}
use Rattle.cfg_chain.specs.MemberErrors.{IsErrorOf, IsErrorOfCall}
use Rattle.cfg_chain.specs.Members.{credentials_chain, default_members}
use Rattle.cfg_chain.specs.Resolves.{IsPart, Resolves}
use Rattle.cfg_chain.specs.SharedCalls.{ProvidesFound}
use Rattle.cfg_chain.specs.Settings.{Setting, ChainSetting, setting, names_of, container_settings, chain_metadata}
use Rattle.cfg_chain.specs.profile.Causes.{of_base, PlannedCause}
use Rattle.cfg_chain.specs.profile.Plans.{Planned, plan, refusal}
use Rattle.cfg_meta.specs.CredentialsAnswers.{none_loaded}
use Rattle.cfg_chain.proofs.PassingErrors.{decides, identity_by}
use Rattle.cfg_chain.proofs.UsableEntries.{no_success}

-- the error of a cause, where there is one, is of this member's line
abbrev Errors : Member → Option CredentialsError → Type 0
Errors m why = IfSome why (IsErrorOf m)

of_cause : (m : Member) (e : CredentialsError) (why : Option CredentialsError) → Errors m why → Some e ≡ why → IsErrorOf m e
of_cause m e (Some w) h is = let same : w ≡ e = cc in subst (IsErrorOf m) same h
of_cause m e None h is = cc

either : (m : Member) (one other : Option CredentialsError) → Errors m one → Errors m other → Errors m (option_or one other)
either m (Some e) other h k = h
either m None other h k = k

-- ---- the environment

environment_errors : (unreadable missing : Option (List ℕ)) → Errors Environment (option_or (option_map not_unicode unreadable) (option_map not_set missing))
unfolding errors.out-CredentialsError reasons.out-NotLoadedCause carrier.out
environment_errors (Some name) missing = tt
environment_errors None (Some name) = tt
environment_errors None None = tt

-- ---- the profile

refusal_error : (f : ProfileFileError) → is_memory (Err (refusal f)) ≡ false → IsErrorOf Profile (refusal f)
unfolding errors.out-CredentialsError reasons.out-NotLoadedCause carrier.out
refusal_error (plan_error.InvalidProfile reason) free = refl
refusal_error plan_error.NoProfilesDefined free = refl
refusal_error (plan_error.ProfileDidNotContainCredentials name) free = refl
refusal_error (plan_error.CredentialLoop profiles next) free = refl
refusal_error (plan_error.MissingCredentialSource name message) free = refl
refusal_error (plan_error.InvalidCredentialSource name message) free = refl
refusal_error (plan_error.MissingProfile name message) free = refl
refusal_error (plan_error.UnknownProvider name) free = refl
refusal_error (plan_error.FeatureNotEnabled feature message) free = refl
refusal_error (plan_error.MissingSsoSession name session) free = refl
refusal_error (plan_error.InvalidSsoConfig name message) free = refl
refusal_error plan_error.TokenProviderConfig free = refl
refusal_error plan_error.OutOfMemory free = cc

planned_errors : (base role : Option CredentialsError) → Errors Profile (option_or (option_map of_base base) (option_map of_role role))
unfolding errors.out-CredentialsError failures.out-ProviderCause carrier.out
planned_errors (Some e) role = tt
planned_errors None (Some e) = tt
planned_errors None None = tt

profile_error : (s : Setting) (p : Planned) (found : List Value) (part : List Pair) (e : CredentialsError) → PlannedCause s p found part (Err e) → is_memory (Err e) ≡ false → IsErrorOf Profile e
profile_error s (Ok p) found part e h free =
    of_cause Profile e (option_or (option_map of_base (result_err h.given)) (option_map of_role (first_failure h.role_part))) (planned_errors (result_err h.given) (first_failure h.role_part)) h.cause
profile_error s (Err f) found part e h free =
    let is : Some e ≡ Some (refusal f) = h.2 in
    let same : refusal f ≡ e = cc in
    subst (IsErrorOf Profile) same (refusal_error f (ap (λ x. is_memory (Err x)) same ∙ free))

-- ---- web identity

unset_errors : (file role session : Option (List ℕ)) → Errors WebIdentityToken (result_err (identity_by file role session))
unfolding errors.out-CredentialsError reasons.out-NotLoadedCause carrier.out
unset_errors None role session = tt
unset_errors (Some f) None session = tt
unset_errors (Some f) (Some r) session = tt

account_errors : (arn : List ℕ) (f : Option (List ℕ) → Keys) (account : Option (List ℕ)) → Errors WebIdentityToken (result_err (or_unhandled (account_or arn account >>= λ a. Ok (f a))))
unfolding errors.out-CredentialsError carrier.out
account_errors arn f None = tt
account_errors arn f (Some a) = tt

reply_errors : (given : Option StsCredentials) (arn : Option (List ℕ)) (provider : List ℕ) → Errors WebIdentityToken (result_err (or_unhandled (keys_in given arn provider)))
unfolding errors.out-CredentialsError carrier.out
reply_errors None arn provider = tt
reply_errors (Some given) None provider = tt
reply_errors (Some given) (Some arn) provider = account_errors arn _ (account_of_arn arn)

granted_errors : (r : Result StsReply NotGranted) → Errors WebIdentityToken (why_granted r)
unfolding into_credentials errors.out-CredentialsError failures.out-ProviderCause carrier.out
granted_errors (Err (Failed kind)) = tt
granted_errors (Err (Refused refusal)) = tt
granted_errors (Ok reply) = reply_errors reply.credentials reply.arn (codes "WebIdentityToken")

text_errors : (text : Option (List ℕ)) → Errors WebIdentityToken (why_text text)
unfolding errors.out-CredentialsError carrier.out
text_errors (Some text) = tt
text_errors None = tt

file_errors : (file : List ℕ) (given : Given) → Errors WebIdentityToken (why_file file given)
unfolding errors.out-CredentialsError failures.out-ProviderCause carrier.out
file_errors file (answer.Contents bytes) = text_errors (utf8_of bytes)
file_errors file _ = tt

answer_errors : (q : Question) (given : Given) → Errors WebIdentityToken (why_answer q given)
answer_errors (question.Read file) given = file_errors file given
answer_errors (question.Send request) given = granted_errors (granted_of sts_in given)
answer_errors _ given = tt

entry_errors : (entry : Option Pair) → Errors WebIdentityToken (option_and_then why_entry entry)
entry_errors None = tt
entry_errors (Some e) = answer_errors e.0 e.1

identity_errors : (r : Result WebIdentity CredentialsError) (part : List Pair) → Errors WebIdentityToken (result_err r) → Errors WebIdentityToken (why_identity r part)
identity_errors (Err e) part h = h
identity_errors (Ok identity) part h = entry_errors (last_or None part)

named_errors : (env : Variables) → Errors WebIdentityToken (result_err (identity_in env))
unfolding identity_in
named_errors env = unset_errors (text_read (variable env (codes "AWS_WEB_IDENTITY_TOKEN_FILE"))) (text_read (variable env (codes "AWS_ROLE_ARN"))) (text_read (variable env (codes "AWS_ROLE_SESSION_NAME")))

-- ---- a container

header_errors : (b : Bool) → Errors EcsContainer (if b then None else Some (InvalidConfiguration config.AuthToken))
unfolding errors.out-CredentialsError carrier.out
header_errors true = tt
header_errors false = tt

held_errors : (path : List ℕ) (held : Option (Result (List ℕ) FailKind)) → Errors EcsContainer (held_fault path held)
unfolding errors.out-CredentialsError failures.out-ProviderCause carrier.out
held_errors path None = tt
held_errors path (Some (Ok bytes)) = header_errors (is_header_value bytes)
held_errors path (Some (Err kind)) = tt

token_errors : (file text : Option (List ℕ)) (part : List Pair) → Errors EcsContainer (token_fault_by file text part)
token_errors (Some path) text part = held_errors path (file_read part)
token_errors None (Some text) part = header_errors (is_header_value (encode_utf8_all text))
token_errors None None part = tt

full_errors : (text : List ℕ) (fault : Option InvalidFullUriError) → Errors EcsContainer (option_map (λ e. InvalidConfiguration (config.FullUri e text)) fault)
unfolding errors.out-CredentialsError carrier.out
full_errors text None = tt
full_errors text (Some e) = tt

address_errors : (dns : Bool) (named : ContainerUri) (part : List Pair) → Errors EcsContainer (address_fault dns named part)
unfolding errors.out-CredentialsError reasons.out-NotLoadedCause carrier.out
address_errors dns uri.NotSet part = tt
address_errors dns (uri.Relative target) part = tt
address_errors dns (uri.NoRelative text) part = tt
address_errors dns (uri.Full text named) part = full_errors text (full_fault dns named part)

body_errors : (text : Bool) (r : Result JsonCredentials InvalidJsonCredentials) → Errors EcsContainer (result_err (said_keys (if text then or_no_document r else Err unhandled.NotUtf8)))
unfolding errors.out-CredentialsError failures.out-ProviderCause carrier.out
body_errors false r = tt
body_errors true (Ok (says.RefreshableCredentials id secret token account end)) = tt
body_errors true (Ok (says.Error code message)) = tt
body_errors true (Err e) = tt

status_errors : (b : Bool) (reply : HttpReply) → Errors EcsContainer (result_err (if b then said_keys (body_document reply.body) else Err (ProviderError (failure.Status reply.status))))
unfolding body_document errors.out-CredentialsError failures.out-ProviderCause carrier.out
status_errors true reply = body_errors (is_utf8 reply.body) (document reply.body)
status_errors false reply = tt

sent_errors : (r : Result HttpReply FailKind) → Errors EcsContainer (result_err (sent_keys r))
unfolding reply_keys errors.out-CredentialsError carrier.out
sent_errors (Ok reply) = status_errors (is_success reply.status) reply
sent_errors (Err kind) = tt

last_errors : (given : Option Given) → Errors EcsContainer (fault_of_answer given)
unfolding answer_keys
last_errors None = tt
last_errors (Some given) = sent_errors (http_of given)

-- ---- instance metadata

refused_error : (code message : List ℕ) (b : Bool) → IsErrorOf Ec2InstanceMetadata (if b then InvalidConfiguration (config.MetadataRole code message) else ProviderError (failure.ErrorDocument code message))
unfolding errors.out-CredentialsError failures.out-ProviderCause carrier.out
refused_error code message true = tt
refused_error code message false = tt

said_errors : (r : Result JsonCredentials InvalidJsonCredentials) → Errors Ec2InstanceMetadata (result_err (said_role r))
unfolding errors.out-CredentialsError carrier.out
said_errors (Ok (says.RefreshableCredentials id secret token account end)) = tt
said_errors (Ok (says.Error code message)) = refused_error code message (bytes_eq code (codes "AssumeRoleUnauthorizedAccess"))
said_errors (Err e) = tt

document_errors : (text : Pair) → Errors Ec2InstanceMetadata (why_document text)
unfolding role_document
document_errors text = said_errors (get_document text)

get_errors : (e : Option ImdsError) → Errors Ec2InstanceMetadata (option_map get_error e)
unfolding errors.out-CredentialsError failures.out-ProviderCause carrier.out
get_errors None = tt
get_errors (Some e) = tt

role_errors_by : (client : ClientRules) (path : List ℕ) (part : List Pair) (text : Option (Pair × List Pair)) → Errors Ec2InstanceMetadata (why_role_by client path part text)
role_errors_by client path part None = get_errors (why_no_text client path part)
role_errors_by client path part (Some text) = document_errors text.0

role_errors : (client : ClientRules) (path : List ℕ) (part : List Pair) → Errors Ec2InstanceMetadata (why_role client path part)
role_errors client path part = role_errors_by client path part (first_text part)

no_role_error : (e : ImdsError) (b : Bool) → IsErrorOf Ec2InstanceMetadata (listing_error_by e (if b then Some MetadataNoRole else None))
unfolding errors.out-CredentialsError reasons.out-NotLoadedCause failures.out-ProviderCause carrier.out
no_role_error e true = tt
no_role_error e false = tt

unreachable_error : (e : ImdsError) (b : Bool) → IsErrorOf Ec2InstanceMetadata (listing_error_by e (if b then Some MetadataUnreachable else None))
unfolding errors.out-CredentialsError reasons.out-NotLoadedCause failures.out-ProviderCause carrier.out
unreachable_error e true = tt
unreachable_error e false = tt

absence_error : (e : ImdsError) → IsErrorOf Ec2InstanceMetadata (listing_error e)
unfolding errors.out-CredentialsError failures.out-ProviderCause carrier.out
absence_error (imds.ErrorResponse r) = no_role_error (imds.ErrorResponse r) (nat_eq (error_reply r).status 404)
absence_error (imds.FailedToLoadToken r) = unreachable_error (imds.FailedToLoadToken r) (is_dispatch_failure r)
absence_error _ = tt

listing_errors : (e : Option ImdsError) → Errors Ec2InstanceMetadata (option_map listing_error e)
listing_errors None = tt
listing_errors (Some e) = absence_error e

listed_errors : (client : ClientRules) (part : List Pair) (text : Option (Pair × List Pair)) → Errors Ec2InstanceMetadata (why_listed_by client part text)
listed_errors client part None = listing_errors (why_no_text client listing_path part)
listed_errors client part (Some text) = role_errors client (role_path (entry_text text.0)) text.1

by_role_errors : (client : ClientRules) (role : Option (List ℕ)) (part : List Pair) → Errors Ec2InstanceMetadata (why_by_role client role part)
by_role_errors client (Some role) part = role_errors client (role_path role) part
by_role_errors client None part = listed_errors client part (first_text part)

nothing_errors : (b : Bool) (why : Option CredentialsError) → Errors Ec2InstanceMetadata why → Errors Ec2InstanceMetadata (if b then Some (CredentialsNotLoaded MetadataDisabled) else why)
unfolding errors.out-CredentialsError reasons.out-NotLoadedCause carrier.out
nothing_errors true why h = tt
nothing_errors false why h = h

metadata_error : (why : Option CredentialsError) (kept : Option Keys) (e : CredentialsError) → Errors Ec2InstanceMetadata why → AnswersBy why kept (Err e) → IsErrorOf Ec2InstanceMetadata e
unfolding or_found
metadata_error None kept e h a = no_success a
metadata_error (Some w) (Some keys) e h a = cc
metadata_error (Some w) None e h a = let same : w ≡ e = cc in subst (IsErrorOf Ec2InstanceMetadata) same h

-- ---- the members, and a call

pub member_error : (s : Setting) (m : Member) (found : List Value) (part : List Pair) (e : CredentialsError) → Cause s m found part (Err e) → is_memory (Err e) ≡ false → IsErrorOf m e
member_error s Environment found part e h free =
    let env = s.configuration.environment in
    of_cause Environment e (option_or (option_map not_unicode (unreadable_variable env)) (option_map not_set (missing_variable env))) (environment_errors (unreadable_variable env) (missing_variable env)) h
member_error s Profile found part e h free = profile_error s (plan s.configuration (names_of s.sources)) found part e h free
member_error s WebIdentityToken found part e h free =
    let named = identity_in s.configuration.environment in
    of_cause WebIdentityToken e (why_identity named part) (identity_errors named part (named_errors s.configuration.environment)) h
member_error s EcsContainer found part e h free =
    let env = s.configuration.environment in
    let dns = (container_settings s.configuration).dns in
    let token = token_fault_by (token_file env) (token_text env) part in
    let address = address_fault dns s.container part in
    let given = fault_of_answer (last_answer part) in
    of_cause EcsContainer e (option_or token (option_or address given))
    (either EcsContainer token (option_or address given) (token_errors (token_file env) (token_text env) part) (either EcsContainer address given (address_errors dns s.container part) (last_errors (last_answer part)))) h
member_error s Ec2InstanceMetadata found part e h free =
    let m = chain_metadata s in
    metadata_error (why_nothing m part) (retrieved_in found) e (nothing_errors m.disabled (why_by_role m.client m.role part) (by_role_errors m.client m.role part)) h

members_error : (s : Setting) (members : List Member) (attempts : List (ProviderAttempt CredentialsError)) (found : List Value) (journal : List Pair) (e : CredentialsError) →
    AreParts (credentials_chain s) (IsPart s) members attempts found journal (Err e) → is_memory (Err e) ≡ false → IsErrorOfCall e
members_error s [] attempts found journal e h free = let is : Err e ≡ Err (none_loaded attempts) = h.2 in inl (attempts, cc)
members_error s (m ∷ members) attempts found journal e (inl h) free = members_error s members (attempts ++ attempt (credentials_chain s) m h.5 ∷ []) h.1 h.3 e h.10 free
members_error s (m ∷ members) attempts found journal e (inr h) free = inr (m, decides s (Err e) h.1, member_error s m found journal e h.0.cause free)

call_error : (s : Setting) (found : List Value) (journal : List Pair) (e : CredentialsError) → Resolves s found journal (Err e) → is_memory (Err e) ≡ false → IsErrorOfCall e
call_error s found journal e h free = members_error s default_members [] found journal e h free

pub call_fails : {D : Type 0} (d : Ghosts D) (over : ChainSetting) (found : List Value) (before later : Held D) (e : CredentialsError) →
    ProvidesFound d over found before later (Err e) → is_memory (Err e) ≡ false → IsErrorOfCall e
call_fails d over found before later e p free = call_error (setting over p.call.services) found p.part e p.call.resolves free

never_late : IsErrorOfCall ProviderTimedOut → ⊥
unfolding errors.out-CredentialsError carrier.out
never_late (inl h) = let same : class.ProviderTimedOut ≡ class.CredentialsNotLoaded = ap class_of h.1 in absurd cc
never_late (inr h) = absurd h.2

late_is_there : is_memory (Err ProviderTimedOut) ≡ false
unfolding errors.out-CredentialsError carrier.out
late_is_there = refl

pub not_late : {D : Type 0} (d : Ghosts D) (over : ChainSetting) (found : List Value) (before later : Held D) (out : Answer) →
    ProvidesFound d over found before later out → out ≡ Err ProviderTimedOut → ⊥
not_late d over found before later out p late =
    let s = setting over p.call.services in
    never_late (call_error s found p.part ProviderTimedOut (subst (Resolves s found p.part) late p.call.resolves) late_is_there)
