-- The token that credentials of IAM Identity Center are asked for with.
use Rattle.std.specs.Prelude.{◌≡◌, ℕ, List, true, Option, Some, None, is_some, Result, Ok, Err, codes, if◌then◌else◌}
use Rattle.std.specs.Str.{encode_utf8_all}
use Rattle.cfg_base.specs.Moment.{Moment}
use Rattle.cfg_types.specs.Environment.{Variables, variable}
use Rattle.cfg_types.specs.declared.environment.VarError.{VarError}
use Rattle.cfg_types.specs.declared.errors.CredentialsError.{CredentialsError}
use Rattle.cfg_types.specs.declared.errors.CredentialsError.TheVariants.{ProviderError}
use Rattle.cfg_types.specs.declared.errors.ProviderCause.TheVariants as cause
use Rattle.cfg_types.specs.declared.errors.sso.CachedSsoTokenError.{CachedSsoTokenError}
use Rattle.cfg_types.specs.declared.errors.sso.CachedSsoTokenError.TheVariants.{IoError, NoHomeDirectory}
use Rattle.cfg_types.specs.declared.errors.sso.IoStep.TheVariants as step
use Rattle.cfg_types.specs.declared.errors.sso.SsoTokenProviderError.TheVariants.{ExpiredToken}
use Rattle.cfg_types.specs.declared.reply.FailKind.{FailKind}
use Rattle.cfg_world.specs.Inquiry.{Inquiry, Done, after}
use Rattle.cfg_world.specs.Leaves.{clock, reading_file}
use Rattle.cfg_profile.specs.Configuration.{Configuration}
use Rattle.cfg_profile.specs.declared.chain.BaseProvider.{BaseProvider}
use Rattle.cfg_profile.specs.declared.chain.BaseProvider.TheVariants as base
use Rattle.cfg_profile.specs.Settings.{settings_of}
use Rattle.cfg_token.specs.declared.sso_token.CachedSsoToken.{CachedSsoToken}
use Rattle.cfg_token.specs.declared.token_key.TokenKey.{TokenKey}
use Rattle.cfg_token.specs.declared.token_key.TokenKey.TheVariants.{Sso}
use Rattle.cfg_token.specs.Moments.{is_before}
use Rattle.cfg_token.specs.Paths.{sso_path}
use Rattle.cfg_token.specs.SsoFile.{sso_file}
use Rattle.cfg_token.specs.SsoTokens.{Given}
use Rattle.cfg_kept.specs.KeptInquiry.{KeptInquiry, Gives, lift, onwards}
use Rattle.cfg_kept.specs.SsoHoldings.{sso_holding}
use Rattle.cfg_sso.specs.declared.config.SsoProviderConfig.{SsoProviderConfig}

-- a token, or why there are no credentials
abbrev pub Token : Type 0
Token = Result CachedSsoToken CredentialsError

-- ---- of a session

-- an error of a section is told as such
unfoldable pub of_section : Given CachedSsoToken → Token
of_section (Ok token) = Ok token
of_section (Err e) = Err (ProviderError (cause.SsoToken e))

-- one section of the token of this key, on what is kept of it
abbrev pub section_of : Configuration → TokenKey → KeptInquiry (Given CachedSsoToken)
section_of conf key = sso_holding key conf.environment (settings_of conf)

-- the token that a section gives
unfoldable pub session_token : Configuration → TokenKey → KeptInquiry Token
session_token conf key = onwards (section_of conf key) (λ given. Gives (of_section given))

-- ---- of a start URL

-- the file that a start URL names, below the home directory, where that is known
abbrev pub url_path : List ℕ → Result (List ℕ) VarError → Result (List ℕ) CachedSsoTokenError
url_path url (Err e) = Err NoHomeDirectory
url_path url (Ok home) = Ok (sso_path (encode_utf8_all url) (encode_utf8_all home))

-- the token that the file of this path holds, or why it holds none
unfoldable pub token_in : List ℕ → Result (List ℕ) FailKind → Result CachedSsoToken CachedSsoTokenError
token_in path (Ok bytes) = sso_file bytes
token_in path (Err kind) = Err (IoError step.Read path)

-- one reading of that file
unfoldable pub file_token : List ℕ → Inquiry (Result CachedSsoToken CachedSsoTokenError)
file_token path = after (reading_file path) (λ contents. Done (token_in path contents))

-- an error of the file is told as such
unfoldable pub of_file : Result CachedSsoToken CachedSsoTokenError → Token
of_file (Ok token) = Ok token
of_file (Err e) = Err (ProviderError (cause.SsoFile e))

-- A file's token by a reading of the clock: one that does not end after it has expired.
unfoldable pub judged : CachedSsoToken → Moment → Token
judged token now = if is_before now token.expires_at then Ok token else Err (ProviderError (cause.SsoToken ExpiredToken))

-- nothing more where there is no token, and else a reading, by which it is judged
unfoldable pub by_clock : Token → Inquiry Token
by_clock (Err e) = Done (Err e)
by_clock (Ok token) = after clock (λ now. Done (judged token now))

abbrev pub at_path : Result (List ℕ) CachedSsoTokenError → Inquiry Token
at_path (Err e) = Done (of_file (Err e))
at_path (Ok path) = after (file_token path) (λ read. by_clock (of_file read))

-- The token in the file that a start URL names, where it has not expired by a reading behind it.
unfoldable pub url_token : Variables → List ℕ → Inquiry Token
url_token env url = at_path (url_path url (variable env (codes "HOME")))

-- ---- of either

-- whose token it is, where a session is named
abbrev pub key_by : Option (List ℕ) → List ℕ → List ℕ → Option TokenKey
key_by None region url = None
key_by (Some session) region url = Some (Sso session region url)

abbrev pub sso_key : SsoProviderConfig → Option TokenKey
sso_key sso = key_by sso.session_name sso.region sso.start_url

-- whose token a base needs: that of a session of IAM Identity Center, where it names one
abbrev pub session_of_base : BaseProvider → Option TokenKey
session_of_base (base.Sso session region url account role) = key_by session region url
session_of_base _ = None

-- Where a key is needed, it is the one that is held.
abbrev pub HasKey : Option TokenKey → Option TokenKey → Type 0
HasKey needed held = is_some needed ≡ true → held ≡ needed

abbrev pub token_by : Configuration → List ℕ → Option TokenKey → KeptInquiry Token
token_by conf url None = lift (url_token conf.environment url)
token_by conf url (Some key) = session_token conf key

-- the token of the session, where one is named, and else that of the start URL
unfoldable pub sso_token : Configuration → SsoProviderConfig → KeptInquiry Token
sso_token conf sso = token_by conf sso.start_url (sso_key sso)
