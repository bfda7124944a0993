-- The text of a chain's error, one level down, for tokens.
use Rattle.std.proofs.Common.{◌≡◌, ℕ, List, Option, sym, ap, ◌∙◌}
use Rattle.cfg_types.specs.ChainTexts.{chain_text}
use Rattle.cfg_types.specs.TokenChainTexts.{token_cause_level, token_cause_text, token_line, token_line_level}
use Rattle.cfg_types.proofs.ChainLines.{chain_text-map}
use Rattle.cfg_types.specs.declared.errors.ProviderChainError.{ProviderChainError}
use Rattle.cfg_types.specs.declared.errors.token.TokenCause.TheVariants as cause
use Rattle.cfg_types.specs.declared.errors.token.TokenError.{TokenError}
use Rattle.cfg_types.specs.declared.errors.token.TokenCause.TheOpen.{TokenCause-F}
use Rattle.cfg_types.specs.declared.errors.token.TokenCause.TheFolds.{fold-roll-TokenCause}

pub token_cause-chain : (chain : ProviderChainError TokenError) → token_cause_text (cause.Chain chain) ≡ chain_text token_line chain.attempts
token_cause-chain chain =
    ap token_cause_text (sym (cause.rolls-Chain chain))
    ∙ fold-roll-TokenCause (Option (List ℕ)) (Option (List ℕ)) token_cause_level token_line_level (TokenCause-F.Chain chain)
    ∙ chain_text-map token_line chain.attempts
