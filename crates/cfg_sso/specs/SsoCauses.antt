-- Why there are no credentials of IAM Identity Center.
use Rattle.std.specs.Prelude.{◌≡◌, ℕ, List, [], ◌∷◌, ◌++◌, Option, Some, None, option_map, Result, Ok, Err, codes}
use Rattle.std.specs.Result.{result_err}
use Rattle.cfg_types.specs.Environment.{variable}
use Rattle.cfg_types.specs.Replies.{role_in}
use Rattle.cfg_types.specs.declared.errors.CredentialsError.{CredentialsError}
use Rattle.cfg_types.specs.declared.errors.CredentialsError.TheVariants.{ProviderError, Unhandled}
use Rattle.cfg_types.specs.declared.errors.ProviderCause.TheVariants as cause
use Rattle.cfg_types.specs.declared.errors.UnhandledCause.{UnhandledCause}
use Rattle.cfg_types.specs.declared.errors.UnhandledCause.TheVariants.{SsoNoCredentials, SsoNoAccessKey, SsoNoSecretKey}
use Rattle.cfg_types.specs.declared.errors.sso.CachedSsoTokenError.{CachedSsoTokenError}
use Rattle.cfg_types.specs.declared.reply.sso.RoleReply.{RoleReply}
use Rattle.cfg_types.specs.declared.reply.sso.RoleCredentials.{RoleCredentials}
use Rattle.cfg_types.specs.declared.request.Request.TheVariants as request
use Rattle.cfg_world.specs.declared.ask.Question.TheVariants as question
use Rattle.cfg_world.specs.declared.ask.Answer.{Answer as Given}
use Rattle.cfg_world.specs.declared.leaves.NotGranted.{NotGranted}
use Rattle.cfg_world.specs.declared.leaves.NotGranted.TheVariants.{Failed, Refused}
use Rattle.cfg_world.specs.Fits.{Pair}
use Rattle.cfg_world.specs.Leaves.{contents_of, granted_of, moment_of}
use Rattle.cfg_profile.specs.Configuration.{Configuration}
use Rattle.cfg_profile.specs.Settings.{settings_of}
use Rattle.cfg_token.specs.declared.sso_token.CachedSsoToken.{CachedSsoToken}
use Rattle.cfg_token.specs.declared.token_key.TokenKey.{TokenKey}
use Rattle.cfg_token.specs.SsoTokens.{Given as GivenBy, sso_rules}
use Rattle.cfg_kept.specs.Kinds.{Value}
use Rattle.cfg_kept.specs.SectionParts.{IsSectionPart}
use Rattle.cfg_kept.specs.SsoHoldings.{sso_spot}
use Rattle.cfg_sso.specs.declared.config.SsoProviderConfig.{SsoProviderConfig}
use Rattle.cfg_sso.specs.RoleKeys.{Answer, request as request_of}
use Rattle.cfg_sso.specs.Tokens.{Token, url_path, token_in, of_file, judged, of_section, sso_key}

-- ---- the token

-- The part is that of a section of the token of this key, by this configuration.
abbrev pub IsSsoPart : Configuration → TokenKey → List Value → List Pair → GivenBy CachedSsoToken → Type 0
IsSsoPart conf key found part given = IsSectionPart sso_rules sso_spot key conf.environment (settings_of conf) found part given

-- Behind the reading of a file nothing is asked where it holds no token; else the clock is read once, and the token
-- is judged by it.
abbrev pub IsJudgedPart : Token → List Pair → Token → Type 0
IsJudgedPart (Err e) part token = (part ≡ []) × (token ≡ Err e)
IsJudgedPart (Ok held) part token = (given : Given) × (part ≡ (question.Now, given) ∷ []) × (token ≡ judged held (moment_of given))

-- A file that has no path is not read. Another is read once, and its token is judged, or it is told why it holds none.
abbrev pub IsFilePart : Result (List ℕ) CachedSsoTokenError → List Pair → Token → Type 0
IsFilePart (Err e) part token = (part ≡ []) × (token ≡ of_file (Err e))
IsFilePart (Ok path) part token =
    (given : Given) × (rest : List Pair) × (part ≡ (question.Read path, given) ∷ rest) × IsJudgedPart (of_file (token_in path (contents_of given))) rest token

-- The part of the token: of a section, where a session is named, and else of the start URL's file.
abbrev pub IsTokenPart : Configuration → List ℕ → Option TokenKey → List Value → List Pair → Token → Type 0
IsTokenPart conf url None found part token = (found ≡ []) × IsFilePart (url_path url (variable conf.environment (codes "HOME"))) part token
IsTokenPart conf url (Some key) found part token = (given : GivenBy CachedSsoToken) × IsSsoPart conf key found part given × (token ≡ of_section given)

-- ---- the request

-- why a reply lacks credentials, or these an id or a secret of their access key
abbrev pub why_keys : Option (List ℕ) → Option (List ℕ) → Option UnhandledCause
why_keys None secret = Some SsoNoAccessKey
why_keys (Some id) None = Some SsoNoSecretKey
why_keys (Some id) (Some secret) = None

abbrev pub why_reply : Option RoleCredentials → Option UnhandledCause
why_reply None = Some SsoNoCredentials
why_reply (Some given) = why_keys given.access_key_id given.secret_access_key

-- why a request was not granted, or its reply gives no credentials
abbrev pub why_granted : Result RoleReply NotGranted → Option CredentialsError
why_granted (Err (Failed kind)) = Some (ProviderError (cause.Sent kind))
why_granted (Err (Refused refusal)) = Some (ProviderError (cause.Refused refusal))
why_granted (Ok reply) = option_map Unhandled (why_reply reply.credentials)

-- Where there is no token nothing is asked, and why there is none is told. With a token the part is one
-- `GetRoleCredentials`, and why there are no credentials is what its answer shows.
abbrev pub IsBehind : Configuration → SsoProviderConfig → Token → List Pair → Answer → Type 0
IsBehind conf sso (Err e) part out = (part ≡ []) × (result_err out ≡ Some e)
IsBehind conf sso (Ok token) part out =
    (given : Given) × (part ≡ (question.Send (request.GetRoleCredentials (request_of conf sso token)), given) ∷ []) × (result_err out ≡ why_granted (granted_of role_in given))

-- The part of a call is that of the token, and then that of the request. The answer is an error exactly
-- where there is no token, or else the request gives nothing, and tells of that.
pub record SsoCause (conf : Configuration) (sso : SsoProviderConfig) (found : List Value) (part : List Pair) (out : Answer) : Type 0 where
  pub token_part : List Pair
  pub role_part : List Pair
  pub parts : part ≡ token_part ++ role_part
  pub token : Token
  pub of_token : IsTokenPart conf sso.start_url (sso_key sso) found token_part token
  pub behind : IsBehind conf sso token role_part out
