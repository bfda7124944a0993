-- The text of a chain's error, one level down.
use Rattle.std.proofs.Common.{◌≡◌, ℕ, List, Option, sym, ap, ◌∙◌}
use Rattle.cfg_types.specs.ChainTexts.{chain_text, credentials_line, credentials_line_level, not_loaded_level, not_loaded_text}
use Rattle.cfg_types.proofs.ChainLines.{chain_text-map}
use Rattle.cfg_types.specs.declared.errors.ProviderChainError.{ProviderChainError}
use Rattle.cfg_types.specs.declared.errors.NotLoadedCause.TheVariants as cause
use Rattle.cfg_types.specs.declared.errors.CredentialsError.{CredentialsError}
use Rattle.cfg_types.specs.declared.errors.CredentialsError.TheOpen.{NotLoadedCause-F}
use Rattle.cfg_types.specs.declared.errors.CredentialsError.TheFolds.{fold-roll-NotLoadedCause}

pub not_loaded-chain : (chain : ProviderChainError CredentialsError) → not_loaded_text (cause.Chain chain) ≡ chain_text credentials_line chain.attempts
not_loaded-chain chain =
    ap not_loaded_text (sym (cause.rolls-Chain chain))
    ∙ fold-roll-NotLoadedCause (Option (List ℕ)) (Option (List ℕ)) ℕ credentials_line_level not_loaded_level (λ _. 0) (NotLoadedCause-F.Chain chain)
    ∙ chain_text-map credentials_line chain.attempts
