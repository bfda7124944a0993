-- The texts of errors that hold no error of their own kind: each error, and then what it comes of.
use Rattle.std.specs.Prelude.{[], ◌∷◌, ◌++◌, codes}
use Rattle.cfg_types.specs.CauseTexts.{config_text, fail_text, unhandled_text}
use Rattle.cfg_types.specs.ErrorTexts.{build_text, cached_token_text, endpoint_mode_text, imds_text, login_token_text, sso_token_text}
use Rattle.cfg_types.specs.declared.reply.FailKind.TheVariants as kind
use Rattle.cfg_types.specs.declared.errors.ConfigCause.{ConfigCause}
use Rattle.cfg_types.specs.declared.errors.ConfigCause.TheVariants as config
use Rattle.cfg_types.specs.declared.errors.UnhandledCause.{UnhandledCause}
use Rattle.cfg_types.specs.declared.errors.UnhandledCause.TheVariants as unhandled
use Rattle.cfg_types.specs.declared.errors.imds.BuildError.{BuildError}
use Rattle.cfg_types.specs.declared.errors.imds.BuildError.TheVariants as build
use Rattle.cfg_types.specs.declared.errors.imds.ImdsError.{ImdsError}
use Rattle.cfg_types.specs.declared.errors.imds.ImdsError.TheVariants as imds
use Rattle.cfg_types.specs.declared.errors.imds.UnexpectedCause.{UnexpectedCause}
use Rattle.cfg_types.specs.declared.errors.imds.UnexpectedCause.TheVariants as unexpected
use Rattle.cfg_types.specs.declared.errors.login.LoginTokenError.{LoginTokenError}
use Rattle.cfg_types.specs.declared.errors.login.LoginTokenError.TheVariants as login
use Rattle.cfg_types.specs.declared.errors.sso.CachedSsoTokenError.{CachedSsoTokenError}
use Rattle.cfg_types.specs.declared.errors.sso.CachedSsoTokenError.TheVariants as cached
use Rattle.cfg_types.specs.declared.errors.sso.SsoTokenProviderError.{SsoTokenProviderError}
use Rattle.cfg_types.specs.declared.errors.sso.SsoTokenProviderError.TheVariants as sso
use Rattle.cfg_error_report.specs.Lines.{Telling, nothing, followed, just, detailed, detail_line}
use Rattle.cfg_error_report.specs.Words.{endpoint_lines, json_fault_words, known, lifetime_words, profile_lines, refusal_lines, scheme_lines, session_token_lines}

-- what it comes of that a client of the metadata service is not built
abbrev pub below_build : BuildError → Telling
below_build (build.InvalidEndpointMode m) = just (endpoint_mode_text m)
below_build (build.InvalidEndpointUri uri) = endpoint_lines uri
below_build build.OutOfMemory = nothing

-- why such a client is not built
abbrev pub build_lines : BuildError → Telling
build_lines e = followed (build_text e) (below_build e)

-- what no rule of that client allows for
abbrev pub unexpected_lines : UnexpectedCause → Telling
unexpected_lines unexpected.NotUtf8 = just (codes "the reply is not UTF-8")
unexpected_lines unexpected.Dispatch = just (fail_text kind.Dispatch)
unexpected_lines (unexpected.Endpoint e) = build_lines e
unexpected_lines (unexpected.Path path) = just (codes "the path is no path of a URI")

-- what the metadata service's error comes of
abbrev pub below_imds : ImdsError → Telling
below_imds (imds.FailedToLoadToken e) = session_token_lines e
below_imds (imds.ErrorResponse e) = nothing
below_imds (imds.IoError k) = just (fail_text k)
below_imds (imds.Unexpected cause) = unexpected_lines cause
below_imds imds.OutOfMemory = nothing

-- why the metadata service gives nothing
abbrev pub imds_lines : ImdsError → Telling
imds_lines e = followed (imds_text e) (below_imds e)

-- why the file of a cached token gives none, or takes none
abbrev pub cached_token_lines : CachedSsoTokenError → Telling
cached_token_lines cached.NoHomeDirectory = detailed (cached_token_text cached.NoHomeDirectory) (codes "the variable `HOME` cannot be read")
cached_token_lines e = just (cached_token_text e)

-- what the error of a token of IAM Identity Center comes of
abbrev pub below_sso_token : SsoTokenProviderError → Telling
below_sso_token (sso.BadExpirationTimeFromSsoOidc seconds) = just (lifetime_words seconds)
below_sso_token (sso.FailedToLoadToken e) = cached_token_lines e
below_sso_token sso.ExpiredToken = nothing
below_sso_token sso.OutOfMemory = nothing

-- why there is no token of IAM Identity Center
abbrev pub sso_token_lines : SsoTokenProviderError → Telling
sso_token_lines e = followed (sso_token_text e) (below_sso_token e)

-- what the error of a sign-in token comes of
abbrev pub below_login_token : LoginTokenError → Telling
below_login_token (login.JsonError fault) = just (json_fault_words fault)
below_login_token login.NoHomeDirectory = λ depth. detail_line depth (codes "neither `AWS_LOGIN_CACHE_DIRECTORY` nor `HOME` can be read") ∷ []
below_login_token e = nothing

-- why there is no sign-in token
abbrev pub login_token_lines : LoginTokenError → Telling
login_token_lines e = followed (login_token_text e) (below_login_token e)

-- what is wrong with the configuration
abbrev pub config_lines : ConfigCause → Telling
config_lines (config.Profile e) = profile_lines e
config_lines (config.FullUri e uri) = followed (known (config_text (config.FullUri e uri))) (scheme_lines uri)
config_lines (config.AssumeRole refusal) = followed (known (config_text (config.AssumeRole refusal))) (refusal_lines refusal)
config_lines (config.LoginToken e) = login_token_lines e
config_lines cause = just (known (config_text cause))

-- what no rule allows for
abbrev pub unhandled_lines : UnhandledCause → Telling
unhandled_lines (unhandled.LoginToken e) = login_token_lines e
unhandled_lines cause = just (unhandled_text cause)
