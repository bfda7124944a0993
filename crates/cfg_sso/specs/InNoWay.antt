-- Calls in whose way nothing stands.
use Rattle.std.specs.Prelude.{◌≡◌, ◌⊎◌, List, [], ◌∷◌, true, Option, Some, None, IsSome, IsOk, Result, Ok, Err, codes}
use Rattle.cfg_base.specs.Moment.{Moment}
use Rattle.cfg_types.specs.Environment.{variable}
use Rattle.cfg_types.specs.Replies.{role_in}
use Rattle.cfg_types.specs.declared.errors.sso.SsoTokenProviderError.{SsoTokenProviderError}
use Rattle.cfg_types.specs.declared.reply.sso.RoleCredentials.{RoleCredentials}
use Rattle.cfg_types.specs.declared.reply.sso.RoleReply.{RoleReply}
use Rattle.cfg_world.specs.declared.ask.Answer.{Answer as Given}
use Rattle.cfg_world.specs.declared.ask.Answer.TheVariants as answer
use Rattle.cfg_world.specs.declared.leaves.NotGranted.{NotGranted}
use Rattle.cfg_world.specs.Fits.{Pair}
use Rattle.cfg_world.specs.Leaves.{moment_of, granted_of}
use Rattle.cfg_profile.specs.Configuration.{Configuration}
use Rattle.cfg_token.specs.declared.file_token.Renewal.{Renewal}
use Rattle.cfg_token.specs.declared.file_token.Renewal.TheVariants.{Granted, Passed, Refused}
use Rattle.cfg_token.specs.declared.sso_token.CachedSsoToken.{CachedSsoToken}
use Rattle.cfg_token.specs.declared.token_key.TokenKey.{TokenKey}
use Rattle.cfg_token.specs.Moments.{is_before}
use Rattle.cfg_token.specs.Readings.{IsHit}
use Rattle.cfg_token.specs.Sections.{ok_of}
use Rattle.cfg_token.specs.SsoFile.{sso_file}
use Rattle.cfg_token.specs.SsoText.{sso_text}
use Rattle.cfg_token.specs.SsoTokens.{sso_renewal, sso_rules}
use Rattle.cfg_kept.specs.Kinds.{Value}
use Rattle.cfg_kept.specs.SectionParts.{found_at}
use Rattle.cfg_kept.specs.SsoHoldings.{sso_spot}
use Rattle.cfg_sso.specs.declared.config.SsoProviderConfig.{SsoProviderConfig}
use Rattle.cfg_sso.specs.Tokens.{sso_key}

-- the token that a file holds, where it was read and holds one
abbrev pub held_token : Given → Option CachedSsoToken
held_token (answer.Contents bytes) = ok_of (sso_file bytes)
held_token _ = None

-- A new token was written.
abbrev pub IsWritten : List Pair → Type 0
IsWritten [] = Unit {0}
IsWritten (e ∷ rest) = e.1 ≡ answer.Written

-- A refresh gave no token, and the file's is used, which ends after the reading; or one whose dates can be
-- written, and it was. It did not give a lifetime that is none.
abbrev pub IsRenewed : CachedSsoToken → Moment → List Pair → Renewal CachedSsoToken SsoTokenProviderError → Type 0
IsRenewed token now rest (Granted new) = IsSome (sso_text new) × IsWritten rest
IsRenewed token now rest Passed = is_before now token.expires_at ≡ true
IsRenewed token now rest (Refused e noted) = ⊥

-- The file's token ends after the reading; or a refresh was asked for, and what came of it stands in no way.
abbrev pub IsRefreshed : TokenKey → CachedSsoToken → Moment → List Pair → Type 0
IsRefreshed key token now [] = is_before now token.expires_at ≡ true
IsRefreshed key token now (e ∷ rest) = IsRenewed token now rest (sso_renewal key token now e.1)

-- The file holds a token that ends after the reading behind it, or that a refresh renews.
abbrev pub IsInTime : TokenKey → Moment → List Pair → Option CachedSsoToken → Type 0
IsInTime key now rest None = ⊥
IsInTime key now rest (Some token) = IsRefreshed key token now rest

-- the same over the part of a section: a reading, a file, a second reading, and what follows
abbrev pub IsSectionInTime : TokenKey → List Pair → Type 0
IsSectionInTime key [] = Unit {0}
IsSectionInTime key (first ∷ []) = Unit {0}
IsSectionInTime key (first ∷ file ∷ []) = IsSome (held_token file.1)
IsSectionInTime key (first ∷ file ∷ second ∷ rest) = IsInTime key (moment_of second.1) rest (held_token file.1)

-- The file of a start URL holds a token that ends after the reading behind it.
abbrev pub IsHeldInTime : Moment → Option CachedSsoToken → Type 0
IsHeldInTime now None = ⊥
IsHeldInTime now (Some token) = is_before now token.expires_at ≡ true

-- and over the part of a token
abbrev pub IsTokenInTime : Option TokenKey → List Pair → Type 0
IsTokenInTime (Some key) part = IsSectionInTime key part
IsTokenInTime None [] = Unit {0}
IsTokenInTime None (file ∷ []) = IsSome (held_token file.1)
IsTokenInTime None (file ∷ reading ∷ part) = IsHeldInTime (moment_of reading.1) (held_token file.1)

-- The reply holds credentials with an id and a secret of their access key.
pub record HasKeys (given : RoleCredentials) : Type 0 where
  pub id : IsSome given.access_key_id
  pub secret : IsSome given.secret_access_key

abbrev pub HoldsKeys : Option RoleCredentials → Type 0
HoldsKeys None = ⊥
HoldsKeys (Some given) = HasKeys given

abbrev pub IsGranted : Result RoleReply NotGranted → Type 0
IsGranted (Ok reply) = HoldsKeys reply.credentials
IsGranted (Err reason) = ⊥

abbrev pub AreGranted : List Pair → Type 0
AreGranted [] = Unit {0}
AreGranted (e ∷ rest) = IsGranted (granted_of role_in e.1)

-- A kept token is handed out, or the home directory is known; the token is in time or renewed, and the
-- request is granted.
pub record NothingInTheWay (conf : Configuration) (sso : SsoProviderConfig) (found : List Value) (token_part role_part : List Pair) : Type 0 where
  pub home : IsHit sso_rules (found_at sso_spot found).token token_part ⊎ IsOk (variable conf.environment (codes "HOME"))
  pub token : IsTokenInTime (sso_key sso) token_part
  pub role : AreGranted role_part
