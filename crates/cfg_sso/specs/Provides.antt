-- What a provider's call leaves of a journal and of what is kept.
use Rattle.cfg_world.specs.declared.asking.Asking.{Ghosts}
use Rattle.cfg_profile.specs.Configuration.{Configuration}
use Rattle.cfg_token.specs.declared.token_key.TokenKey.{TokenKey}
use Rattle.cfg_kept.specs.Holds.{Holdings, HoldsEnds}
use Rattle.cfg_sso.specs.declared.config.SsoProviderConfig.{SsoProviderConfig}
use Rattle.cfg_sso.specs.RoleKeys.{Answer}
use Rattle.cfg_sso.specs.SsoCredentials.{sso_credentials}
use Rattle.cfg_sso.specs.SsoCauses.{SsoCause}
use Rattle.cfg_sso.specs.BearerTokens.{Bearer, bearer_token, BearerCause}

-- The journal and the found values grew by a part over which the provider's tree came to this answer.
-- The answer has its cause.
pub record ProvidesSso {A : Type 0} (a : Ghosts A) (conf : Configuration) (sso : SsoProviderConfig) (old : A) (before : Holdings) (new : A) (later : Holdings) (out : Answer) : Type 0 where
  pub ends : HoldsEnds a (sso_credentials conf sso) old before new later out
  pub cause : SsoCause conf sso ends.found ends.part out

-- The same of a provider of bearer tokens.
pub record ProvidesBearer {A : Type 0} (a : Ghosts A) (conf : Configuration) (key : TokenKey) (old : A) (before : Holdings) (new : A) (later : Holdings) (out : Bearer) : Type 0 where
  pub ends : HoldsEnds a (bearer_token conf key) old before new later out
  pub cause : BearerCause conf key ends.found ends.part out
