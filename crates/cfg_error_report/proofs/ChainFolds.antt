-- The lines of a chain's error, one level down.
use Rattle.std.proofs.Common.{◌≡◌, ℕ, List, Option, Some, sym, ap, ◌∙◌, refl, map, [], ◌∷◌, ◌++◌, append_assoc, codes, subst}
use Rattle.std.specs.Prelude.{IfSome}
use Rattle.cfg_types.specs.ChainTexts as texts
use Rattle.cfg_types.specs.declared.errors.ProviderAttempt.{ProviderAttempt}
use Rattle.cfg_types.specs.declared.errors.ProviderChainError.{ProviderChainError}
use Rattle.cfg_types.specs.declared.errors.NotLoadedCause.{NotLoadedCause}
use Rattle.cfg_types.specs.declared.errors.NotLoadedCause.TheVariants as cause
use Rattle.cfg_types.specs.declared.errors.CredentialsError.{CredentialsError}
use Rattle.cfg_types.specs.declared.errors.CredentialsError.TheOpen.{NotLoadedCause-F}
use Rattle.cfg_types.specs.declared.errors.CredentialsError.TheFolds.{fold-roll-NotLoadedCause}
use Rattle.cfg_types.specs.declared.errors.token.TokenCause.{TokenCause}
use Rattle.cfg_types.specs.declared.errors.token.TokenCause.TheVariants as token_cause
use Rattle.cfg_types.specs.declared.errors.token.TokenError.{TokenError}
use Rattle.cfg_types.specs.declared.errors.token.TokenCause.TheOpen.{TokenCause-F}
use Rattle.cfg_types.specs.declared.errors.token.TokenCause.TheFolds.{fold-roll-TokenCause}
use Rattle.cfg_error_report.specs.Lines.{Line, Telling, cause_line, detailed}
use Rattle.cfg_error_report.specs.Words.{known}
use Rattle.cfg_error_report.specs.CredentialsCauses.{chain_words, chain_lines, members_lines, member_lines, error_level, not_loaded_level, provider_level, error_lines, no_container, no_role, not_loaded_lines}
use Rattle.cfg_error_report.specs.TokenCauses.{token_cause_level, token_level, token_lines, token_cause_lines}

-- an attempt with the lines of its error in the error's place
abbrev told : {E : Type 0} → (E → Telling) → ProviderAttempt E → ProviderAttempt Telling
told tells a = record { name = a.name; error = tells a.error }

members-told : {E : Type 0} (tells : E → Telling) (depth : ℕ) (attempts : List (ProviderAttempt E)) → members_lines (λ (t : Telling). t) depth (map (told tells) attempts) ≡ members_lines tells depth attempts
members-told tells depth [] = refl
members-told tells depth (a ∷ attempts) = ap (λ (l : List Line). member_lines tells depth a ++ l) (members-told tells depth attempts)

chain-told : {E : Type 0} (tells : E → Telling) (depth : ℕ) (attempts : List (ProviderAttempt E)) → chain_lines (λ (t : Telling). t) depth (map (told tells) attempts) ≡ chain_lines tells depth attempts
chain-told tells depth [] = refl
chain-told tells depth (a ∷ attempts) = ap (λ (l : List Line). cause_line depth (chain_words (a ∷ attempts)) ∷ l) (members-told tells depth (a ∷ attempts))

pub not_loaded-chain : (chain : ProviderChainError CredentialsError) (depth : ℕ) → not_loaded_lines (cause.Chain chain) depth ≡ chain_lines error_lines depth chain.attempts
not_loaded-chain chain depth =
    ap (λ (c : NotLoadedCause). not_loaded_lines c depth) (sym (cause.rolls-Chain chain))
    ∙ ap (λ (t : Telling). t depth) (fold-roll-NotLoadedCause Telling Telling Telling error_level not_loaded_level provider_level (NotLoadedCause-F.Chain chain))
    ∙ chain-told error_lines depth chain.attempts

pub token_cause-chain : (chain : ProviderChainError TokenError) (depth : ℕ) → token_cause_lines (token_cause.Chain chain) depth ≡ chain_lines token_lines depth chain.attempts
token_cause-chain chain depth =
    ap (λ (c : TokenCause). token_cause_lines c depth) (sym (token_cause.rolls-Chain chain))
    ∙ ap (λ (t : Telling). t depth) (fold-roll-TokenCause Telling Telling token_cause_level token_level (TokenCause-F.Chain chain))
    ∙ chain-told token_lines depth chain.attempts

-- the members behind the chain's own line
chain-behind : {E : Type 0} (tells : E → Telling) (depth : ℕ) (attempts first second : List (ProviderAttempt E)) (words : List ℕ) (old so_far : List Line)
    → words ≡ chain_words first → first ≡ attempts → second ≡ attempts → so_far ≡ old ++ cause_line depth words ∷ []
    → so_far ++ members_lines tells depth second ≡ old ++ chain_lines tells depth attempts
chain-behind {E} tells depth attempts first second words old so_far w f s is =
    ap (λ (l : List Line). l ++ members_lines tells depth second) is
    ∙ append_assoc old (cause_line depth words ∷ []) (members_lines tells depth second)
    ∙ ap (λ (l : List (ProviderAttempt E)). old ++ (cause_line depth words ∷ members_lines tells depth l)) s
    ∙ ap (λ (l : List ℕ). old ++ (cause_line depth l ∷ members_lines tells depth attempts)) (w ∙ ap chain_words f)

pub not_loaded-behind : (c : NotLoadedCause) (chain : ProviderChainError CredentialsError) (depth : ℕ) (first second : List (ProviderAttempt CredentialsError)) (words : List ℕ) (old so_far : List Line)
    → c ≡ cause.Chain chain → words ≡ chain_words first → first ≡ chain.attempts → second ≡ chain.attempts → so_far ≡ old ++ cause_line depth words ∷ []
    → so_far ++ members_lines error_lines depth second ≡ old ++ not_loaded_lines c depth
not_loaded-behind c chain depth first second words old so_far e w f s is =
    chain-behind error_lines depth chain.attempts first second words old so_far w f s is
    ∙ ap (λ (l : List Line). old ++ l) (sym (not_loaded-chain chain depth) ∙ ap (λ (x : NotLoadedCause). not_loaded_lines x depth) (sym e))

pub token_cause-behind : (c : TokenCause) (chain : ProviderChainError TokenError) (depth : ℕ) (first second : List (ProviderAttempt TokenError)) (words : List ℕ) (old so_far : List Line)
    → c ≡ token_cause.Chain chain → words ≡ chain_words first → first ≡ chain.attempts → second ≡ chain.attempts → so_far ≡ old ++ cause_line depth words ∷ []
    → so_far ++ members_lines token_lines depth second ≡ old ++ token_cause_lines c depth
token_cause-behind c chain depth first second words old so_far e w f s is =
    chain-behind token_lines depth chain.attempts first second words old so_far w f s is
    ∙ ap (λ (l : List Line). old ++ l) (sym (token_cause-chain chain depth) ∙ ap (λ (x : TokenCause). token_cause_lines x depth) (sym e))

-- ---- causes with a detail

detail-told : (c : NotLoadedCause) (words detail : List ℕ) (old new : List Line) (depth : ℕ) → texts.not_loaded_text c ≡ Some words → not_loaded_lines c depth ≡ detailed (known (texts.not_loaded_text c)) detail depth
    → IfSome (texts.not_loaded_text c) (λ t. new ≡ old ++ detailed t detail depth) → new ≡ old ++ not_loaded_lines c depth
detail-told c words detail old new depth text lines h =
    let told : new ≡ old ++ detailed words detail depth = subst (λ (o : Option (List ℕ)). IfSome o (λ t. new ≡ old ++ detailed t detail depth)) text h in
    told ∙ ap (λ (l : List Line). old ++ l) (ap (λ (o : Option (List ℕ)). detailed (known o) detail depth) (sym text) ∙ sym lines)

pub not_configured-told : (c : NotLoadedCause) (old new : List Line) (depth : ℕ) → c ≡ cause.NotConfigured
    → IfSome (texts.not_loaded_text c) (λ t. new ≡ old ++ detailed t no_container depth) → new ≡ old ++ not_loaded_lines c depth
not_configured-told c old new depth is h = rw is (
    detail-told cause.NotConfigured (codes "ECS provider not configured") no_container old new depth
    (ap texts.not_loaded_text (sym cause.rolls-NotConfigured) ∙ fold-roll-NotLoadedCause (Option (List ℕ)) (Option (List ℕ)) ℕ texts.credentials_line_level texts.not_loaded_level (λ _. 0) NotLoadedCause-F.NotConfigured)
    (ap (λ (x : NotLoadedCause). not_loaded_lines x depth) (sym cause.rolls-NotConfigured)
    ∙ ap (λ (t : Telling). t depth) (fold-roll-NotLoadedCause Telling Telling Telling error_level not_loaded_level provider_level NotLoadedCause-F.NotConfigured))
    (rw is at h))

pub no_role-told : (c : NotLoadedCause) (old new : List Line) (depth : ℕ) → c ≡ cause.MetadataNoRole
    → IfSome (texts.not_loaded_text c) (λ t. new ≡ old ++ detailed t no_role depth) → new ≡ old ++ not_loaded_lines c depth
no_role-told c old new depth is h = rw is (
    detail-told cause.MetadataNoRole (codes "received 404 from IMDS") no_role old new depth
    (ap texts.not_loaded_text (sym cause.rolls-MetadataNoRole) ∙ fold-roll-NotLoadedCause (Option (List ℕ)) (Option (List ℕ)) ℕ texts.credentials_line_level texts.not_loaded_level (λ _. 0) NotLoadedCause-F.MetadataNoRole)
    (ap (λ (x : NotLoadedCause). not_loaded_lines x depth) (sym cause.rolls-MetadataNoRole)
    ∙ ap (λ (t : Telling). t depth) (fold-roll-NotLoadedCause Telling Telling Telling error_level not_loaded_level provider_level NotLoadedCause-F.MetadataNoRole))
    (rw is at h))
