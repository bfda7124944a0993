-- What an error tells is the same without what replies gave.
use Rattle.std.proofs.Common.{◌≡◌, ℕ, List, [], ◌∷◌, map, refl, sym, ap, ◌∙◌, subst}
use Rattle.cfg_types.specs.declared.errors.ProviderAttempt.{ProviderAttempt}
use Rattle.cfg_types.specs.declared.errors.UnhandledCause.{UnhandledCause}
use Rattle.cfg_types.specs.declared.errors.UnhandledCause.TheVariants as unhandled
use Rattle.cfg_types.specs.declared.errors.imds.ImdsError.{ImdsError}
use Rattle.cfg_types.specs.declared.errors.imds.ImdsError.TheVariants as imds
use Rattle.cfg_types.specs.declared.errors.imds.UnexpectedCause.TheVariants as unexpected
use Rattle.cfg_types.specs.declared.errors.CredentialsError.{CredentialsError, roll-CredentialsError}
use Rattle.cfg_types.specs.declared.errors.NotLoadedCause.{NotLoadedCause, roll-NotLoadedCause, fold-NotLoadedCause}
use Rattle.cfg_types.specs.declared.errors.ProviderCause.{ProviderCause, roll-ProviderCause, fold-ProviderCause}
use Rattle.cfg_types.specs.declared.errors.CredentialsError.TheOpen.{CredentialsError-F, NotLoadedCause-F, ProviderCause-F}
use Rattle.cfg_types.specs.declared.errors.CredentialsError.TheFolds.{ind-CredentialsError, map-CredentialsError, map-NotLoadedCause, map-ProviderCause, fold-roll-CredentialsError, fold-roll-NotLoadedCause, fold-roll-ProviderCause}
use Rattle.cfg_error_report.specs.Lines.{Telling}
use Rattle.cfg_error_report.specs.Parts.{imds_lines}
use Rattle.cfg_error_report.specs.CredentialsCauses.{chain_lines, error_lines, not_loaded_lines, provider_lines, error_level, not_loaded_level, provider_level}
use Rattle.cfg_error_report.specs.Blanks.{blanked, blank_imds, blank_unhandled, blank_error_level, blank_provider_level}

abbrev blank_not_loaded : NotLoadedCause → NotLoadedCause
blank_not_loaded = fold-NotLoadedCause CredentialsError NotLoadedCause ProviderCause blank_error_level roll-NotLoadedCause blank_provider_level

abbrev blank_provider : ProviderCause → ProviderCause
blank_provider = fold-ProviderCause CredentialsError NotLoadedCause ProviderCause blank_error_level roll-NotLoadedCause blank_provider_level

abbrev SameError : CredentialsError → Type 0
SameError e = error_lines (blanked e) ≡ error_lines e

abbrev SameNotLoaded : NotLoadedCause → Type 0
SameNotLoaded c = not_loaded_lines (blank_not_loaded c) ≡ not_loaded_lines c

abbrev SameProvider : ProviderCause → Type 0
SameProvider c = provider_lines (blank_provider c) ≡ provider_lines c

-- values with their proofs
abbrev Errors : Type 0
Errors = (e : CredentialsError) × SameError e

abbrev NotLoadeds : Type 0
NotLoadeds = (c : NotLoadedCause) × SameNotLoaded c

abbrev Providers : Type 0
Providers = (c : ProviderCause) × SameProvider c

-- a layer without its proofs
abbrev bare_error : CredentialsError-F Errors NotLoadeds Providers → CredentialsError-F CredentialsError NotLoadedCause ProviderCause
bare_error = map-CredentialsError Errors NotLoadeds Providers CredentialsError NotLoadedCause ProviderCause (λ e. e.0) (λ e. e.0) (λ e. e.0)

abbrev bare_not_loaded : NotLoadedCause-F Errors NotLoadeds Providers → NotLoadedCause-F CredentialsError NotLoadedCause ProviderCause
bare_not_loaded = map-NotLoadedCause Errors NotLoadeds Providers CredentialsError NotLoadedCause ProviderCause (λ e. e.0) (λ e. e.0) (λ e. e.0)

abbrev bare_provider : ProviderCause-F Errors NotLoadeds Providers → ProviderCause-F CredentialsError NotLoadedCause ProviderCause
bare_provider = map-ProviderCause Errors NotLoadeds Providers CredentialsError NotLoadedCause ProviderCause (λ e. e.0) (λ e. e.0) (λ e. e.0)

-- one layer of an error, with what is done below it
abbrev below_error : CredentialsError-F CredentialsError NotLoadedCause ProviderCause → CredentialsError-F CredentialsError NotLoadedCause ProviderCause
below_error = map-CredentialsError CredentialsError NotLoadedCause ProviderCause CredentialsError NotLoadedCause ProviderCause blanked blank_not_loaded blank_provider

abbrev told_error : CredentialsError-F CredentialsError NotLoadedCause ProviderCause → CredentialsError-F Telling Telling Telling
told_error = map-CredentialsError CredentialsError NotLoadedCause ProviderCause Telling Telling Telling error_lines not_loaded_lines provider_lines

abbrev below_not_loaded : NotLoadedCause-F CredentialsError NotLoadedCause ProviderCause → NotLoadedCause-F CredentialsError NotLoadedCause ProviderCause
below_not_loaded = map-NotLoadedCause CredentialsError NotLoadedCause ProviderCause CredentialsError NotLoadedCause ProviderCause blanked blank_not_loaded blank_provider

abbrev told_not_loaded : NotLoadedCause-F CredentialsError NotLoadedCause ProviderCause → NotLoadedCause-F Telling Telling Telling
told_not_loaded = map-NotLoadedCause CredentialsError NotLoadedCause ProviderCause Telling Telling Telling error_lines not_loaded_lines provider_lines

abbrev below_provider : ProviderCause-F CredentialsError NotLoadedCause ProviderCause → ProviderCause-F CredentialsError NotLoadedCause ProviderCause
below_provider = map-ProviderCause CredentialsError NotLoadedCause ProviderCause CredentialsError NotLoadedCause ProviderCause blanked blank_not_loaded blank_provider

abbrev told_provider : ProviderCause-F CredentialsError NotLoadedCause ProviderCause → ProviderCause-F Telling Telling Telling
told_provider = map-ProviderCause CredentialsError NotLoadedCause ProviderCause Telling Telling Telling error_lines not_loaded_lines provider_lines

-- a value that is made of one layer: blanked, and told
rolled_error : (x : CredentialsError-F CredentialsError NotLoadedCause ProviderCause) → blanked (roll-CredentialsError x) ≡ blank_error_level (below_error x)
rolled_error x = fold-roll-CredentialsError CredentialsError NotLoadedCause ProviderCause blank_error_level roll-NotLoadedCause blank_provider_level x

lines_error : (x : CredentialsError-F CredentialsError NotLoadedCause ProviderCause) → error_lines (roll-CredentialsError x) ≡ error_level (told_error x)
lines_error x = fold-roll-CredentialsError Telling Telling Telling error_level not_loaded_level provider_level x

rolled_not_loaded : (x : NotLoadedCause-F CredentialsError NotLoadedCause ProviderCause) → blank_not_loaded (roll-NotLoadedCause x) ≡ roll-NotLoadedCause (below_not_loaded x)
rolled_not_loaded x = fold-roll-NotLoadedCause CredentialsError NotLoadedCause ProviderCause blank_error_level roll-NotLoadedCause blank_provider_level x

lines_not_loaded : (x : NotLoadedCause-F CredentialsError NotLoadedCause ProviderCause) → not_loaded_lines (roll-NotLoadedCause x) ≡ not_loaded_level (told_not_loaded x)
lines_not_loaded x = fold-roll-NotLoadedCause Telling Telling Telling error_level not_loaded_level provider_level x

rolled_provider : (x : ProviderCause-F CredentialsError NotLoadedCause ProviderCause) → blank_provider (roll-ProviderCause x) ≡ blank_provider_level (below_provider x)
rolled_provider x = fold-roll-ProviderCause CredentialsError NotLoadedCause ProviderCause blank_error_level roll-NotLoadedCause blank_provider_level x

lines_provider : (x : ProviderCause-F CredentialsError NotLoadedCause ProviderCause) → provider_lines (roll-ProviderCause x) ≡ provider_level (told_provider x)
lines_provider x = fold-roll-ProviderCause Telling Telling Telling error_level not_loaded_level provider_level x

-- an error of this layer has the lines of this blanked one, where the layers have the same lines
error_from : (x z : CredentialsError-F CredentialsError NotLoadedCause ProviderCause) → blank_error_level (below_error x) ≡ roll-CredentialsError z → error_level (told_error z) ≡ error_level (told_error x) → SameError (roll-CredentialsError x)
error_from x z is same = ap error_lines (rolled_error x ∙ is) ∙ lines_error z ∙ same ∙ sym (lines_error x)

not_loaded_from : (x : NotLoadedCause-F CredentialsError NotLoadedCause ProviderCause) → not_loaded_level (told_not_loaded (below_not_loaded x)) ≡ not_loaded_level (told_not_loaded x) → SameNotLoaded (roll-NotLoadedCause x)
not_loaded_from x same = ap not_loaded_lines (rolled_not_loaded x) ∙ lines_not_loaded (below_not_loaded x) ∙ same ∙ sym (lines_not_loaded x)

provider_from : (x z : ProviderCause-F CredentialsError NotLoadedCause ProviderCause) → blank_provider_level (below_provider x) ≡ roll-ProviderCause z → provider_level (told_provider z) ≡ provider_level (told_provider x) → SameProvider (roll-ProviderCause x)
provider_from x z is same = ap provider_lines (rolled_provider x ∙ is) ∙ lines_provider z ∙ same ∙ sym (lines_provider x)

same_unhandled : (u : UnhandledCause) → error_level (CredentialsError-F.Unhandled (blank_unhandled u)) ≡ error_level (CredentialsError-F.Unhandled u)
same_unhandled (unhandled.NotUnicode name) = refl
same_unhandled unhandled.NotUtf8 = refl
same_unhandled (unhandled.NoDocument e) = refl
same_unhandled (unhandled.Sent kind) = refl
same_unhandled unhandled.StsNoCredentials = refl
same_unhandled (unhandled.StsArn arn) = refl
same_unhandled unhandled.SsoNoCredentials = refl
same_unhandled unhandled.SsoNoAccessKey = refl
same_unhandled unhandled.SsoNoSecretKey = refl
same_unhandled (unhandled.LoginToken e) = refl
same_unhandled (unhandled.Custom text) = refl

same_imds : (e : ImdsError) → imds_lines (blank_imds e) ≡ imds_lines e
same_imds (imds.FailedToLoadToken e) = refl
same_imds (imds.ErrorResponse e) = refl
same_imds (imds.IoError kind) = refl
same_imds (imds.Unexpected unexpected.NotUtf8) = refl
same_imds (imds.Unexpected unexpected.Dispatch) = refl
same_imds (imds.Unexpected (unexpected.Endpoint e)) = refl
same_imds (imds.Unexpected (unexpected.Path path)) = refl
same_imds imds.OutOfMemory = refl

error_case : (y : CredentialsError-F Errors NotLoadeds Providers) → SameError (roll-CredentialsError (bare_error y))
error_case (CredentialsError-F.CredentialsNotLoaded c) =
    error_from (CredentialsError-F.CredentialsNotLoaded c.0) (CredentialsError-F.CredentialsNotLoaded (blank_not_loaded c.0)) refl (ap (λ (t : Telling). error_level (CredentialsError-F.CredentialsNotLoaded t)) c.1)
error_case CredentialsError-F.ProviderTimedOut = error_from CredentialsError-F.ProviderTimedOut CredentialsError-F.ProviderTimedOut refl refl
error_case (CredentialsError-F.InvalidConfiguration cause) = error_from (CredentialsError-F.InvalidConfiguration cause) (CredentialsError-F.InvalidConfiguration cause) refl refl
error_case (CredentialsError-F.ProviderError c) =
    error_from (CredentialsError-F.ProviderError c.0) (CredentialsError-F.ProviderError (blank_provider c.0)) refl (ap (λ (t : Telling). error_level (CredentialsError-F.ProviderError t)) c.1)
error_case (CredentialsError-F.Unhandled cause) = error_from (CredentialsError-F.Unhandled cause) (CredentialsError-F.Unhandled (blank_unhandled cause)) refl (same_unhandled cause)
error_case CredentialsError-F.OutOfMemory = error_from CredentialsError-F.OutOfMemory CredentialsError-F.OutOfMemory refl refl

-- members of a chain: without their proofs, blanked, and told
abbrev bare_attempt : ProviderAttempt Errors → ProviderAttempt CredentialsError
bare_attempt a = record { name = a.name; error = a.error.0 }

abbrev blanked_attempt : ProviderAttempt CredentialsError → ProviderAttempt CredentialsError
blanked_attempt a = record { name = a.name; error = blanked a.error }

abbrev told_attempt : ProviderAttempt CredentialsError → ProviderAttempt Telling
told_attempt a = record { name = a.name; error = error_lines a.error }

same_attempts : (attempts : List (ProviderAttempt Errors)) → map told_attempt (map blanked_attempt (map bare_attempt attempts)) ≡ map told_attempt (map bare_attempt attempts)
same_attempts [] = refl
same_attempts (a ∷ attempts) =
    ap (λ (t : Telling). (record { name = a.name; error = t }) ∷ map told_attempt (map blanked_attempt (map bare_attempt attempts))) a.error.1
    ∙ ap (λ (l : List (ProviderAttempt Telling)). told_attempt (bare_attempt a) ∷ l) (same_attempts attempts)

not_loaded_case : (y : NotLoadedCause-F Errors NotLoadeds Providers) → SameNotLoaded (roll-NotLoadedCause (bare_not_loaded y))
not_loaded_case (NotLoadedCause-F.NotSet name) = not_loaded_from (NotLoadedCause-F.NotSet name) refl
not_loaded_case (NotLoadedCause-F.Profile e) = not_loaded_from (NotLoadedCause-F.Profile e) refl
not_loaded_case NotLoadedCause-F.NotConfigured = not_loaded_from NotLoadedCause-F.NotConfigured refl
not_loaded_case NotLoadedCause-F.MetadataDisabled = not_loaded_from NotLoadedCause-F.MetadataDisabled refl
not_loaded_case NotLoadedCause-F.MetadataNoRole = not_loaded_from NotLoadedCause-F.MetadataNoRole refl
not_loaded_case NotLoadedCause-F.MetadataUnreachable = not_loaded_from NotLoadedCause-F.MetadataUnreachable refl
not_loaded_case (NotLoadedCause-F.NotLoadedCause::Custom text) = not_loaded_from (NotLoadedCause-F.NotLoadedCause::Custom text) refl
not_loaded_case (NotLoadedCause-F.Chain chain) =
    not_loaded_from (NotLoadedCause-F.Chain (record { attempts = map bare_attempt chain.attempts }))
    (ap (λ (l : List (ProviderAttempt Telling)). λ (depth : ℕ). chain_lines (λ (t : Telling). t) depth l) (same_attempts chain.attempts))

provider_case : (y : ProviderCause-F Errors NotLoadeds Providers) → SameProvider (roll-ProviderCause (bare_provider y))
provider_case (ProviderCause-F.Base e) =
    provider_from (ProviderCause-F.Base e.0) (ProviderCause-F.Base (blanked e.0)) refl (ap (λ (t : Telling). provider_level (ProviderCause-F.Base t)) e.1)
provider_case (ProviderCause-F.Role e) =
    provider_from (ProviderCause-F.Role e.0) (ProviderCause-F.Role (blanked e.0)) refl (ap (λ (t : Telling). provider_level (ProviderCause-F.Role t)) e.1)
provider_case (ProviderCause-F.File path) = provider_from (ProviderCause-F.File path) (ProviderCause-F.File path) refl refl
provider_case (ProviderCause-F.Sent kind) = provider_from (ProviderCause-F.Sent kind) (ProviderCause-F.Sent kind) refl refl
provider_case (ProviderCause-F.Refused refusal) = provider_from (ProviderCause-F.Refused refusal) (ProviderCause-F.Refused refusal) refl refl
provider_case (ProviderCause-F.Status status) = provider_from (ProviderCause-F.Status status) (ProviderCause-F.Status status) refl refl
provider_case (ProviderCause-F.ErrorDocument code m) = provider_from (ProviderCause-F.ErrorDocument code m) (ProviderCause-F.ErrorDocument code m) refl refl
provider_case (ProviderCause-F.Process e) = provider_from (ProviderCause-F.Process e) (ProviderCause-F.Process e) refl refl
provider_case (ProviderCause-F.Metadata e) =
    provider_from (ProviderCause-F.Metadata e) (ProviderCause-F.Metadata (blank_imds e)) refl (same_imds e)
provider_case (ProviderCause-F.SsoToken e) = provider_from (ProviderCause-F.SsoToken e) (ProviderCause-F.SsoToken e) refl refl
provider_case (ProviderCause-F.SsoFile e) = provider_from (ProviderCause-F.SsoFile e) (ProviderCause-F.SsoFile e) refl refl
provider_case (ProviderCause-F.LoginToken e) = provider_from (ProviderCause-F.LoginToken e) (ProviderCause-F.LoginToken e) refl refl
provider_case (ProviderCause-F.ProviderCause::Custom text) = provider_from (ProviderCause-F.ProviderCause::Custom text) (ProviderCause-F.ProviderCause::Custom text) refl refl

pub blank_lines : (e : CredentialsError) → error_lines (blanked e) ≡ error_lines e
blank_lines = ind-CredentialsError SameError SameNotLoaded SameProvider
    (λ x y is. subst (λ (z : CredentialsError-F CredentialsError NotLoadedCause ProviderCause). SameError (roll-CredentialsError z)) is (error_case y))
    (λ x y is. subst (λ (z : NotLoadedCause-F CredentialsError NotLoadedCause ProviderCause). SameNotLoaded (roll-NotLoadedCause z)) is (not_loaded_case y))
    (λ x y is. subst (λ (z : ProviderCause-F CredentialsError NotLoadedCause ProviderCause). SameProvider (roll-ProviderCause z)) is (provider_case y))
