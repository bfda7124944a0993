-- What the error of a call says of the members before it.
use Rattle.std.proofs.Common.{◌≡◌, ℕ, List, [], map, length, Bool, true, false, Option, Some, None, Result, Ok, Err, option_map, refl, sym, ap, ◌∙◌}
use Rattle.std.specs.Prelude.{◌-◌, IfSome, slice_get, if◌then◌else◌}
use Rattle.std.specs.Result.{result_err}
use Rattle.std.specs.Str.{encode_utf8_all}
use Rattle.std.proofs.lemmas.List.{length-map}
use Rattle.std.proofs.lemmas.Option.{slice_get-map}
use denote.Hole.Carrier as carrier
use Rattle.cfg_types.specs.Classes.{class_level, same_class, is_memory, is_not_loaded_answer}
use Rattle.cfg_types.specs.Environment.{Variables}
use Rattle.cfg_types.specs.declared.errors.Class.TheVariants as class
use Rattle.cfg_types.specs.declared.errors.ConfigCause.{ConfigCause}
use Rattle.cfg_types.specs.declared.errors.ConfigCause.TheVariants as config
use Rattle.cfg_types.specs.declared.errors.CredentialsError as errors
use Rattle.cfg_types.specs.declared.errors.CredentialsError.{CredentialsError, out-CredentialsError}
use Rattle.cfg_types.specs.declared.errors.CredentialsError.TheOpen.{CredentialsError-F, NotLoadedCause-F, ProviderCause-F}
use Rattle.cfg_types.specs.declared.errors.CredentialsError.TheVariants.{InvalidConfiguration, outs-CredentialsNotLoaded}
use Rattle.cfg_types.specs.declared.errors.NotLoadedCause.{NotLoadedCause, out-NotLoadedCause}
use Rattle.cfg_types.specs.declared.errors.NotLoadedCause.TheVariants.{Chain, outs-Chain}
use Rattle.cfg_types.specs.declared.errors.ProviderAttempt.{ProviderAttempt}
use Rattle.cfg_types.specs.declared.errors.ProviderChainError.{ProviderChainError}
use Rattle.cfg_types.specs.declared.errors.ProviderCause as failures
use Rattle.cfg_types.specs.declared.errors.ProviderCause.{ProviderCause, out-ProviderCause}
use Rattle.cfg_types.specs.declared.reply.FailKind.{FailKind}
use Rattle.cfg_world.specs.Fits.{Pair}
use Rattle.cfg_exchange.specs.Containers.{token_file, token_text}
use Rattle.cfg_exchange.specs.ContainerCauses.{file_read, held_fault, token_fault_by, token_fault}
use Rattle.cfg_exchange.specs.HeaderValues.{is_header_value}
use Rattle.cfg_kept.specs.Kinds.{Value}
use Rattle.cfg_meta.specs.CredentialsAnswers.{is_not_loaded, none_loaded}
use Rattle.cfg_providers.specs.CustomSources.{Answer}
use Rattle.cfg_chain.specs.declared.member.Member.TheVariants.{Ec2InstanceMetadata}
use Rattle.cfg_chain.specs.Callers.{Passed, members_in, told_of}
use Rattle.cfg_chain.specs.MemberErrors.{IsNotLoadedOf, IsFailureOf, IsErrorLevel, IsErrorOf}
use Rattle.cfg_chain.specs.Members.{default_members}
use Rattle.cfg_chain.specs.Resolves.{IsPart}
use Rattle.cfg_chain.specs.Settings.{Setting}
use Rattle.cfg_chain.proofs.MemberErrors.{member_error}
use Rattle.cfg_explain.specs.Reasons.{is_token_fault, is_file_fault, is_token_level, is_token_error, is_token_answer, is_metadata_cause, is_metadata_level, is_metadata_error, attempts_of_cause, attempts_of_level, attempts_in, metadata_error, without_metadata}

-- one level of an error
abbrev Level : Type 0
Level = CredentialsError-F CredentialsError NotLoadedCause ProviderCause

clash : {X : Type 0} → true ≡ false → X
clash h = absurd cc

-- ---- the token of a container

header_is : (b : Bool) → IfSome (if b then None else Some (InvalidConfiguration config.AuthToken)) (λ e. is_token_error e ≡ true)
unfolding errors.out-CredentialsError carrier.out
header_is true = tt
header_is false = refl

held_is : (path : List ℕ) (held : Option (Result (List ℕ) FailKind)) → IfSome (held_fault path held) (λ e. is_token_error e ≡ true)
unfolding errors.out-CredentialsError failures.out-ProviderCause carrier.out
held_is path None = tt
held_is path (Some (Ok bytes)) = header_is (is_header_value bytes)
held_is path (Some (Err kind)) = refl

fault_is : (file text : Option (List ℕ)) (part : List Pair) → IfSome (token_fault_by file text part) (λ e. is_token_error e ≡ true)
fault_is (Some path) text part = held_is path (file_read part)
fault_is None (Some text) part = header_is (is_header_value (encode_utf8_all text))
fault_is None None part = tt

-- what is wrong with a token is an error of it
pub token_fault_is : (env : Variables) (part : List Pair) → IfSome (token_fault env part) (λ e. is_token_error e ≡ true)
token_fault_is env part = fault_is (token_file env) (token_text env) part

pub token_answer : (out : Answer) (e : CredentialsError) → result_err out ≡ Some e → is_token_error e ≡ true → is_token_answer out ≡ true
token_answer (Ok keys) e h is = absurd cc
token_answer (Err f) e h is = let same : f ≡ e = cc in ap is_token_error same ∙ is

-- ---- instance metadata

no_fault : (cause : ConfigCause) → IsErrorLevel Ec2InstanceMetadata (CredentialsError-F.InvalidConfiguration cause) → is_token_fault cause ≡ false
no_fault (config.Profile e) h = refl
no_fault (config.RelativeUri text) h = refl
no_fault (config.FullUri e text) h = refl
no_fault config.AuthToken h = absurd h
no_fault (config.MetadataRole code message) h = refl
no_fault (config.AssumeRole kind) h = refl
no_fault (config.LoginToken e) h = refl
no_fault (config.Custom text) h = refl

no_file : (cause : ProviderCause) → IsErrorLevel Ec2InstanceMetadata (CredentialsError-F.ProviderError cause) → is_file_fault (out-ProviderCause cause) ≡ false
no_file cause h = by_level (out-ProviderCause cause) h
  where
    by_level : (level : ProviderCause-F CredentialsError NotLoadedCause ProviderCause) → IsFailureOf Ec2InstanceMetadata level → is_file_fault level ≡ false
    by_level (ProviderCause-F.File path) h = absurd h
    by_level _ h = refl

no_token : (level : Level) → IsErrorLevel Ec2InstanceMetadata level → is_token_level level ≡ false
no_token (CredentialsError-F.InvalidConfiguration cause) h = no_fault cause h
no_token (CredentialsError-F.ProviderError cause) h = no_file cause h
no_token _ h = refl

memory_no_token : (level : Level) → same_class class.OutOfMemory (class_level level) ≡ true → is_token_level level ≡ false
memory_no_token (CredentialsError-F.InvalidConfiguration cause) h = clash (sym h)
memory_no_token (CredentialsError-F.ProviderError cause) h = clash (sym h)
memory_no_token _ h = refl

metadata_no_token : (e : CredentialsError) (b : Bool) → is_memory (Err e) ≡ b → (is_memory (Err e) ≡ false → IsErrorOf Ec2InstanceMetadata e) → is_token_error e ≡ false
metadata_no_token e true memory is = memory_no_token (out-CredentialsError e) memory
metadata_no_token e false free is = no_token (out-CredentialsError e) (is free)

-- the last member has no error of a token
pub metadata_is_no_token : (s : Setting) (found : List Value) (part : List Pair) (out : Answer) → IsPart s Ec2InstanceMetadata found part out → is_token_answer out ≡ false
metadata_is_no_token s found part (Ok keys) p = refl
metadata_is_no_token s found part (Err e) p = metadata_no_token e (is_memory (Err e)) refl (member_error s Ec2InstanceMetadata found part e p.cause)

not_memory : (level : Level) → same_class class.CredentialsNotLoaded (class_level level) ≡ true → same_class class.OutOfMemory (class_level level) ≡ false
not_memory (CredentialsError-F.CredentialsNotLoaded cause) h = refl
not_memory CredentialsError-F.OutOfMemory h = clash (sym h)
not_memory _ h = refl

of_metadata : (level : Level) → IsErrorLevel Ec2InstanceMetadata level → same_class class.CredentialsNotLoaded (class_level level) ≡ true → is_metadata_level level ≡ true
of_metadata (CredentialsError-F.CredentialsNotLoaded cause) h loaded = by_level (out-NotLoadedCause cause) h
  where
    by_level : (level : NotLoadedCause-F CredentialsError NotLoadedCause ProviderCause) → IsNotLoadedOf Ec2InstanceMetadata level → is_metadata_cause level ≡ true
    by_level NotLoadedCause-F.MetadataDisabled h = refl
    by_level NotLoadedCause-F.MetadataNoRole h = refl
    by_level NotLoadedCause-F.MetadataUnreachable h = refl
    by_level _ h = absurd h
of_metadata _ h loaded = clash (sym loaded)

-- an error by which instance metadata was not loaded
pub metadata_was_not_loaded : (s : Setting) (found : List Value) (part : List Pair) (e : CredentialsError) → IsPart s Ec2InstanceMetadata found part (Err e) → is_not_loaded e ≡ true → is_metadata_error e ≡ true
metadata_was_not_loaded s found part e p loaded =
    of_metadata (out-CredentialsError e) (member_error s Ec2InstanceMetadata found part e p.cause (not_memory (out-CredentialsError e) loaded)) loaded

-- ---- what an answer tells of each member

none_told : (level : Level) → same_class class.CredentialsNotLoaded (class_level level) ≡ false → attempts_of_level level ≡ []
none_told (CredentialsError-F.CredentialsNotLoaded cause) h = clash h
none_told _ h = refl

abbrev by_attempts : List (ProviderAttempt CredentialsError) → Option CredentialsError
by_attempts attempts = metadata_error (slice_get attempts (length attempts - 1))

-- an answer that is not passed over tells of none
pub none_without_metadata : (out : Answer) → is_not_loaded_answer out ≡ false → without_metadata out ≡ None
none_without_metadata (Ok keys) loaded = refl
none_without_metadata (Err e) loaded = ap by_attempts (none_told (out-CredentialsError e) loaded)

all_told : (attempts : List (ProviderAttempt CredentialsError)) → attempts_in (Err (none_loaded attempts)) ≡ attempts
all_told attempts =
    let all : ProviderChainError CredentialsError = record { attempts = attempts } in
    ap attempts_of_level (outs-CredentialsNotLoaded (Chain all)) ∙ ap attempts_of_cause (outs-Chain all)

none_is_no_token : (attempts : List (ProviderAttempt CredentialsError)) → is_token_answer (Err (none_loaded attempts)) ≡ false
unfolding errors.out-CredentialsError carrier.out
none_is_no_token attempts = refl

pub none_loaded_is_no_token : (out : Answer) (attempts : List (ProviderAttempt CredentialsError)) → out ≡ Err (none_loaded attempts) → is_token_answer out ≡ false
none_loaded_is_no_token out attempts tells = ap is_token_answer tells ∙ none_is_no_token attempts

-- where none was loaded, the answer tells of the last member
pub last_is_told : (out : Answer) (passed : List Passed) (u : Passed) → default_members ≡ members_in passed → out ≡ Err (none_loaded (map told_of passed)) →
    slice_get passed 4 ≡ Some u → is_metadata_error u.error ≡ true → without_metadata out ≡ Some u.error
last_is_told out passed u order tells there is =
    let attempts : List (ProviderAttempt CredentialsError) = map told_of passed in
    let five : length attempts ≡ 5 = length-map passed told_of ∙ sym (length-map passed (λ (p : Passed). p.who)) ∙ ap length (sym order) in
    ap without_metadata tells
    ∙ ap by_attempts (all_told attempts)
    ∙ ap (λ n. metadata_error (slice_get attempts (n - 1))) five
    ∙ ap metadata_error (slice_get-map told_of passed 4 ∙ ap (option_map told_of) there)
    ∙ ap (λ b. if b then Some u.error else None) is
