-- Credentials of IAM Identity Center.
use Rattle.std.specs.Prelude.{Ok, Err}
use Rattle.cfg_world.specs.Inquiry.{Inquiry, Done}
use Rattle.cfg_kept.specs.KeptInquiry.{KeptInquiry, lift, onwards}
use Rattle.cfg_profile.specs.Configuration.{Configuration}
use Rattle.cfg_sso.specs.declared.config.SsoProviderConfig.{SsoProviderConfig}
use Rattle.cfg_sso.specs.RoleKeys.{Answer, exchange}
use Rattle.cfg_sso.specs.Tokens.{Token, sso_token}

-- one request with the token, and nothing where there is none
unfoldable pub behind_token : Configuration → SsoProviderConfig → Token → Inquiry Answer
behind_token conf sso (Ok token) = exchange conf sso token
behind_token conf sso (Err e) = Done (Err e)

-- the token, and then one request with it
unfoldable pub sso_credentials : Configuration → SsoProviderConfig → KeptInquiry Answer
sso_credentials conf sso = onwards (sso_token conf sso) (λ given. lift (behind_token conf sso given))
