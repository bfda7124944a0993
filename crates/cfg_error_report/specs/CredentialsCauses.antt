-- What an error of credentials tells, from the outside in.
use Rattle.std.specs.Prelude.{ℕ, ◌+◌, List, [], ◌∷◌, codes}
use Rattle.std.specs.List.{flat_map}
use Rattle.std.specs.Str.{encode_utf8_all}
use Rattle.cfg_types.specs.ChainTexts.{credentials_text, not_loaded_text}
use Rattle.cfg_types.specs.ProviderTexts.{provider_text}
use Rattle.cfg_types.specs.declared.errors.ProviderAttempt.{ProviderAttempt}
use Rattle.cfg_types.specs.declared.errors.NotLoadedCause.{NotLoadedCause, fold-NotLoadedCause}
use Rattle.cfg_types.specs.declared.errors.NotLoadedCause.TheVariants as cause
use Rattle.cfg_types.specs.declared.errors.ProviderCause.{ProviderCause, fold-ProviderCause}
use Rattle.cfg_types.specs.declared.errors.ProviderCause.TheVariants as provider
use Rattle.cfg_types.specs.declared.errors.CredentialsError.{CredentialsError, fold-CredentialsError}
use Rattle.cfg_types.specs.declared.errors.CredentialsError.TheVariants as error
use Rattle.cfg_types.specs.declared.errors.CredentialsError.TheOpen.{CredentialsError-F, NotLoadedCause-F, ProviderCause-F}
use Rattle.cfg_error_report.specs.Lines.{Line, Telling, followed, just, detailed, cause_line, detail_line, member_line}
use Rattle.cfg_error_report.specs.Words.{known, process_lines, profile_lines, refusal_lines, variable_words}
use Rattle.cfg_error_report.specs.Parts.{cached_token_lines, config_lines, imds_lines, login_token_lines, sso_token_lines, unhandled_lines}

-- that no member of a chain was loaded
abbrev pub chain_words : {E : Type 0} → List E → List ℕ
chain_words [] = codes "no providers were configured in the chain"
chain_words (attempt ∷ attempts) = codes "no credentials found in chain"

-- a member's name, and below it its error with all that it comes of
abbrev pub member_lines : {E : Type 0} → (E → Telling) → ℕ → ProviderAttempt E → List Line
member_lines tells depth a = member_line (depth + 1) (encode_utf8_all a.name) ∷ tells a.error (depth + 2)

-- the members of a chain, in their order
abbrev pub members_lines : {E : Type 0} → (E → Telling) → ℕ → List (ProviderAttempt E) → List Line
members_lines tells depth attempts = flat_map (member_lines tells depth) attempts

-- that no member of a chain was loaded, and each member
abbrev pub chain_lines : {E : Type 0} → (E → Telling) → ℕ → List (ProviderAttempt E) → List Line
chain_lines tells depth attempts = cause_line depth (chain_words attempts) ∷ members_lines tells depth attempts

-- why a container gives nothing, and instance metadata
abbrev pub no_container : List ℕ
no_container = codes "neither `AWS_CONTAINER_CREDENTIALS_RELATIVE_URI` nor `AWS_CONTAINER_CREDENTIALS_FULL_URI` can be read"

abbrev pub no_role : List ℕ
no_role = codes "the machine has no role: the listing of roles is not there"

abbrev pub not_loaded_level : NotLoadedCause-F Telling Telling Telling → Telling
not_loaded_level (NotLoadedCause-F.NotSet name) = detailed (known (not_loaded_text (cause.NotSet name))) (variable_words name)
not_loaded_level (NotLoadedCause-F.Profile e) = profile_lines e
not_loaded_level NotLoadedCause-F.NotConfigured = detailed (known (not_loaded_text cause.NotConfigured)) no_container
not_loaded_level NotLoadedCause-F.MetadataDisabled = just (known (not_loaded_text cause.MetadataDisabled))
not_loaded_level NotLoadedCause-F.MetadataNoRole = detailed (known (not_loaded_text cause.MetadataNoRole)) no_role
not_loaded_level NotLoadedCause-F.MetadataUnreachable = detailed (known (not_loaded_text cause.MetadataUnreachable)) (codes "the request for a session token could not be sent")
not_loaded_level (NotLoadedCause-F.NotLoadedCause::Custom text) = just (encode_utf8_all text)
not_loaded_level (NotLoadedCause-F.Chain chain) = λ depth. chain_lines (λ tells. tells) depth chain.attempts

abbrev pub provider_level : ProviderCause-F Telling Telling Telling → Telling
provider_level (ProviderCause-F.Base tells) = λ depth. detail_line depth (codes "the base gave no credentials") ∷ tells depth
provider_level (ProviderCause-F.Role tells) = λ depth. detail_line depth (codes "a role could not be assumed") ∷ tells depth
provider_level (ProviderCause-F.File path) = just (provider_text (provider.File path))
provider_level (ProviderCause-F.Sent kind) = just (provider_text (provider.Sent kind))
provider_level (ProviderCause-F.Refused refusal) = followed (provider_text (provider.Refused refusal)) (refusal_lines refusal.kind)
provider_level (ProviderCause-F.Status status) = just (provider_text (provider.Status status))
provider_level (ProviderCause-F.ErrorDocument code m) = just (provider_text (provider.ErrorDocument code m))
provider_level (ProviderCause-F.Process e) = process_lines e
provider_level (ProviderCause-F.Metadata e) = imds_lines e
provider_level (ProviderCause-F.SsoToken e) = sso_token_lines e
provider_level (ProviderCause-F.SsoFile e) = cached_token_lines e
provider_level (ProviderCause-F.LoginToken e) = login_token_lines e
provider_level (ProviderCause-F.ProviderCause::Custom text) = just (encode_utf8_all text)

abbrev pub error_level : CredentialsError-F Telling Telling Telling → Telling
error_level (CredentialsError-F.CredentialsNotLoaded tells) = followed (codes "not loaded") tells
error_level CredentialsError-F.ProviderTimedOut = just (credentials_text error.ProviderTimedOut)
error_level (CredentialsError-F.InvalidConfiguration config) = followed (codes "invalid configuration") (config_lines config)
error_level (CredentialsError-F.ProviderError tells) = followed (codes "provider error") tells
error_level (CredentialsError-F.Unhandled unhandled) = followed (codes "unhandled error") (unhandled_lines unhandled)
error_level CredentialsError-F.OutOfMemory = just (credentials_text error.OutOfMemory)

-- an error and what it comes of, from this depth on
abbrev pub error_lines : CredentialsError → Telling
error_lines = fold-CredentialsError Telling Telling Telling error_level not_loaded_level provider_level

-- why a provider was not loaded
abbrev pub not_loaded_lines : NotLoadedCause → Telling
not_loaded_lines = fold-NotLoadedCause Telling Telling Telling error_level not_loaded_level provider_level

-- what a provider failed at
abbrev pub provider_lines : ProviderCause → Telling
provider_lines = fold-ProviderCause Telling Telling Telling error_level not_loaded_level provider_level

-- An error of credentials, and all that it comes of, from the outside in. Of a chain of which no member was loaded each
-- member, by its name, with all that its own error comes of.
abbrev pub causes_of : CredentialsError → List Line
causes_of e = error_lines e 0
