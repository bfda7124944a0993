-- The texts of the errors of credentials, which hold one another: a chain's error shows each attempt with its cause.
use Rattle.std.specs.Prelude.{ℕ, List, [], ◌∷◌, ◌++◌, Option, Some, codes, if◌then◌else◌}
use Rattle.std.specs.Str.{encode_utf8_all, bytes_eq}
use Rattle.std.specs.Fmt.{◌++?◌}
use Rattle.cfg_types.specs.ErrorTexts.{profile_text}
use Rattle.cfg_types.specs.declared.errors.ProviderAttempt.{ProviderAttempt}
use Rattle.cfg_types.specs.declared.errors.NotLoadedCause.{NotLoadedCause, fold-NotLoadedCause}
use Rattle.cfg_types.specs.declared.errors.ProviderCause.{ProviderCause}
use Rattle.cfg_types.specs.declared.errors.CredentialsError.{CredentialsError, out-CredentialsError, fold-CredentialsError}
use Rattle.cfg_types.specs.declared.errors.CredentialsError.TheOpen.{CredentialsError-F, NotLoadedCause-F}

abbrev pub credentials_level : CredentialsError-F CredentialsError NotLoadedCause ProviderCause → List ℕ
credentials_level (CredentialsError-F.CredentialsNotLoaded cause) = codes "not loaded"
credentials_level CredentialsError-F.ProviderTimedOut = codes "provider timed out"
credentials_level (CredentialsError-F.InvalidConfiguration cause) = codes "invalid configuration"
credentials_level (CredentialsError-F.ProviderError cause) = codes "provider error"
credentials_level (CredentialsError-F.Unhandled cause) = codes "unhandled error"
credentials_level CredentialsError-F.OutOfMemory = codes "out of memory"

-- why there are no credentials, without the cause
abbrev pub credentials_text : CredentialsError → List ℕ
credentials_text e = credentials_level (out-CredentialsError e)

-- that the variable of this name is not set
abbrev pub not_set_text : List ℕ → List ℕ
not_set_text name =
    if bytes_eq name (codes "AWS_WEB_IDENTITY_TOKEN_FILE") then codes "$AWS_WEB_IDENTITY_TOKEN_FILE was not set"
    else (if bytes_eq name (codes "AWS_ROLE_ARN") then codes "AWS_ROLE_ARN environment variable must be set"
    else codes "environment variable not set")

-- a member's name, and the text of what it answered
abbrev pub attempt_text : {E : Type 0} → (E → Option (List ℕ)) → ProviderAttempt E → Option (List ℕ)
attempt_text text a = Some (codes "\n  " ++ (encode_utf8_all a.name ++ codes ": ")) ++? text a.error

-- the members of a chain in their order, each on a line of its own
abbrev pub attempts_text : {E : Type 0} → (E → Option (List ℕ)) → List (ProviderAttempt E) → Option (List ℕ)
attempts_text text [] = Some []
attempts_text text (a ∷ rest) = attempt_text text a ++? attempts_text text rest

-- that no member of a chain was loaded
abbrev pub chain_text : {E : Type 0} → (E → Option (List ℕ)) → List (ProviderAttempt E) → Option (List ℕ)
chain_text text [] = Some (codes "no providers were configured in the chain")
chain_text text (a ∷ rest) = Some (codes "no credentials found in chain. Attempted:") ++? attempts_text text (a ∷ rest)

-- an error with its cause, where that is a cause of not being loaded
abbrev pub credentials_line_level : CredentialsError-F (Option (List ℕ)) (Option (List ℕ)) ℕ → Option (List ℕ)
credentials_line_level (CredentialsError-F.CredentialsNotLoaded cause) = Some (codes "not loaded: ") ++? cause
credentials_line_level CredentialsError-F.ProviderTimedOut = Some (codes "provider timed out")
credentials_line_level (CredentialsError-F.InvalidConfiguration cause) = Some (codes "invalid configuration")
credentials_line_level (CredentialsError-F.ProviderError cause) = Some (codes "provider error")
credentials_line_level (CredentialsError-F.Unhandled cause) = Some (codes "unhandled error")
credentials_line_level CredentialsError-F.OutOfMemory = Some (codes "out of memory")

abbrev pub not_loaded_level : NotLoadedCause-F (Option (List ℕ)) (Option (List ℕ)) ℕ → Option (List ℕ)
not_loaded_level (NotLoadedCause-F.NotSet name) = Some (not_set_text name)
not_loaded_level (NotLoadedCause-F.Profile e) = profile_text e
not_loaded_level NotLoadedCause-F.NotConfigured = Some (codes "ECS provider not configured")
not_loaded_level NotLoadedCause-F.MetadataDisabled = Some (codes "IMDS disabled by AWS_EC2_METADATA_DISABLED env var set to `true`")
not_loaded_level NotLoadedCause-F.MetadataNoRole = Some (codes "received 404 from IMDS")
not_loaded_level NotLoadedCause-F.MetadataUnreachable = Some (codes "could not communicate with IMDS")
not_loaded_level (NotLoadedCause-F.NotLoadedCause::Custom text) = Some (encode_utf8_all text)
not_loaded_level (NotLoadedCause-F.Chain chain) = chain_text (λ line. line) chain.attempts

-- an error as a chain shows it, all the way down
abbrev pub credentials_line : CredentialsError → Option (List ℕ)
credentials_line = fold-CredentialsError (Option (List ℕ)) (Option (List ℕ)) ℕ credentials_line_level not_loaded_level (λ _. 0)

-- why a provider was not loaded
abbrev pub not_loaded_text : NotLoadedCause → Option (List ℕ)
not_loaded_text = fold-NotLoadedCause (Option (List ℕ)) (Option (List ℕ)) ℕ credentials_line_level not_loaded_level (λ _. 0)
