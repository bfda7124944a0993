-- The text of what a provider failed at.
use Rattle.std.specs.Prelude.{ℕ, List, ◌++◌, codes}
use Rattle.std.specs.Str.{encode_utf8_all}
use Rattle.std.specs.Fmt.{decimal}
use Rattle.cfg_types.specs.CauseTexts.{fail_text, process_text}
use Rattle.cfg_types.specs.ChainTexts.{credentials_text}
use Rattle.cfg_types.specs.ErrorTexts.{cached_token_text, imds_text, login_token_text, sso_token_text}
use Rattle.cfg_types.specs.declared.errors.NotLoadedCause.{NotLoadedCause}
use Rattle.cfg_types.specs.declared.errors.ProviderCause.{ProviderCause, out-ProviderCause}
use Rattle.cfg_types.specs.declared.errors.CredentialsError.{CredentialsError}
use Rattle.cfg_types.specs.declared.errors.CredentialsError.TheOpen.{ProviderCause-F}

abbrev pub provider_level : ProviderCause-F CredentialsError NotLoadedCause ProviderCause → List ℕ
provider_level (ProviderCause-F.Base e) = credentials_text e
provider_level (ProviderCause-F.Role e) = credentials_text e
provider_level (ProviderCause-F.File path) = codes "`" ++ (encode_utf8_all path ++ codes "` could not be read")
provider_level (ProviderCause-F.Sent kind) = fail_text kind
provider_level (ProviderCause-F.Refused refusal) = codes "the request is refused: " ++ encode_utf8_all refusal.message
provider_level (ProviderCause-F.Status status) = codes "the reply has the status " ++ decimal status
provider_level (ProviderCause-F.ErrorDocument code m) = codes "the service answered `" ++ (encode_utf8_all code ++ (codes "`: " ++ encode_utf8_all m))
provider_level (ProviderCause-F.Process e) = process_text e
provider_level (ProviderCause-F.Metadata e) = imds_text e
provider_level (ProviderCause-F.SsoToken e) = sso_token_text e
provider_level (ProviderCause-F.SsoFile e) = cached_token_text e
provider_level (ProviderCause-F.LoginToken e) = login_token_text e
provider_level (ProviderCause-F.ProviderCause::Custom text) = encode_utf8_all text

-- what a provider failed at; of another error only what kind it is
abbrev pub provider_text : ProviderCause → List ℕ
provider_text cause = provider_level (out-ProviderCause cause)
