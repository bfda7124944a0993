-- The texts of the errors of tokens, which hold one another as those of credentials do.
use Rattle.std.specs.Prelude.{ℕ, List, Option, Some, codes}
use Rattle.std.specs.Str.{encode_utf8_all}
use Rattle.std.specs.Fmt.{◌++?◌}
use Rattle.cfg_types.specs.ChainTexts.{chain_text}
use Rattle.cfg_types.specs.declared.errors.token.TokenCause.{TokenCause, fold-TokenCause}
use Rattle.cfg_types.specs.declared.errors.token.TokenError.{TokenError, out-TokenError, fold-TokenError}
use Rattle.cfg_types.specs.declared.errors.token.TokenCause.TheOpen.{TokenCause-F, TokenError-F}

abbrev pub token_level : TokenError-F TokenCause TokenError → List ℕ
token_level (TokenError-F.TokenNotLoaded cause) = codes "not loaded"
token_level TokenError-F.ProviderTimedOut = codes "provider timed out"
token_level (TokenError-F.InvalidConfiguration cause) = codes "invalid configuration"
token_level (TokenError-F.ProviderError cause) = codes "provider error"
token_level (TokenError-F.Unhandled text) = codes "unhandled error"
token_level TokenError-F.OutOfMemory = codes "out of memory"

-- why there is no token, without the cause
abbrev pub token_text : TokenError → List ℕ
token_text e = token_level (out-TokenError e)

-- an error with its cause, where that is a cause of not being loaded
abbrev pub token_line_level : TokenError-F (Option (List ℕ)) (Option (List ℕ)) → Option (List ℕ)
token_line_level (TokenError-F.TokenNotLoaded cause) = Some (codes "not loaded: ") ++? cause
token_line_level TokenError-F.ProviderTimedOut = Some (codes "provider timed out")
token_line_level (TokenError-F.InvalidConfiguration cause) = Some (codes "invalid configuration")
token_line_level (TokenError-F.ProviderError cause) = Some (codes "provider error")
token_line_level (TokenError-F.Unhandled text) = Some (codes "unhandled error")
token_line_level TokenError-F.OutOfMemory = Some (codes "out of memory")

abbrev pub token_cause_level : TokenCause-F (Option (List ℕ)) (Option (List ℕ)) → Option (List ℕ)
token_cause_level TokenCause-F.NoSession = Some (codes "no sso-session configured in profile file")
token_cause_level (TokenCause-F.Custom text) = Some (encode_utf8_all text)
token_cause_level (TokenCause-F.Chain chain) = chain_text (λ line. line) chain.attempts

-- an error as a chain shows it, all the way down
abbrev pub token_line : TokenError → Option (List ℕ)
token_line = fold-TokenError (Option (List ℕ)) (Option (List ℕ)) token_cause_level token_line_level

-- why a token provider was not loaded
abbrev pub token_cause_text : TokenCause → Option (List ℕ)
token_cause_text = fold-TokenCause (Option (List ℕ)) (Option (List ℕ)) token_cause_level token_line_level
