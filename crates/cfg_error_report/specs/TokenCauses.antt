-- What an error of tokens tells, from the outside in.
use Rattle.std.specs.Prelude.{List, codes}
use Rattle.std.specs.Str.{encode_utf8_all}
use Rattle.cfg_types.specs.TokenChainTexts.{token_cause_text, token_text}
use Rattle.cfg_types.specs.declared.errors.token.TokenCause.{TokenCause, fold-TokenCause}
use Rattle.cfg_types.specs.declared.errors.token.TokenCause.TheVariants as cause
use Rattle.cfg_types.specs.declared.errors.token.TokenError.{TokenError, fold-TokenError}
use Rattle.cfg_types.specs.declared.errors.token.TokenError.TheVariants as error
use Rattle.cfg_types.specs.declared.errors.token.TokenCause.TheOpen.{TokenCause-F, TokenError-F}
use Rattle.cfg_error_report.specs.Lines.{Line, Telling, followed, just}
use Rattle.cfg_error_report.specs.Words.{known, profile_lines}
use Rattle.cfg_error_report.specs.Parts.{sso_token_lines}
use Rattle.cfg_error_report.specs.CredentialsCauses.{chain_lines}

abbrev pub token_cause_level : TokenCause-F Telling Telling → Telling
token_cause_level TokenCause-F.NoSession = just (known (token_cause_text cause.NoSession))
token_cause_level (TokenCause-F.Custom text) = just (encode_utf8_all text)
token_cause_level (TokenCause-F.Chain chain) = λ depth. chain_lines (λ tells. tells) depth chain.attempts

abbrev pub token_level : TokenError-F Telling Telling → Telling
token_level (TokenError-F.TokenNotLoaded tells) = followed (codes "not loaded") tells
token_level TokenError-F.ProviderTimedOut = just (token_text error.ProviderTimedOut)
token_level (TokenError-F.InvalidConfiguration e) = followed (token_text (error.InvalidConfiguration e)) (profile_lines e)
token_level (TokenError-F.ProviderError e) = followed (token_text (error.ProviderError e)) (sso_token_lines e)
token_level (TokenError-F.Unhandled text) = followed (token_text (error.Unhandled text)) (just (encode_utf8_all text))
token_level TokenError-F.OutOfMemory = just (token_text error.OutOfMemory)

-- an error and what it comes of, from this depth on
abbrev pub token_lines : TokenError → Telling
token_lines = fold-TokenError Telling Telling token_cause_level token_level

-- why a token provider was not loaded
abbrev pub token_cause_lines : TokenCause → Telling
token_cause_lines = fold-TokenCause Telling Telling token_cause_level token_level

-- An error of tokens, and all that it comes of, from the outside in.
abbrev pub token_causes_of : TokenError → List Line
token_causes_of e = token_lines e 0
