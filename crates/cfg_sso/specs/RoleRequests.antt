-- What is sent for the credentials of a role, and with which token.
use Rattle.std.specs.Prelude.{◌≡◌, List, [], ◌∷◌, ◌++◌, Bool, true, false, Ok, is_ok}
use Rattle.cfg_types.specs.declared.request.Request.TheVariants as request
use Rattle.cfg_world.specs.declared.ask.Question.{Question}
use Rattle.cfg_world.specs.declared.ask.Question.TheVariants as question
use Rattle.cfg_world.specs.declared.ask.Answer.{Answer as Given}
use Rattle.cfg_world.specs.Fits.{Pair}
use Rattle.cfg_world.specs.LastReadings.{last_reading}
use Rattle.cfg_profile.specs.Configuration.{Configuration}
use Rattle.cfg_token.specs.declared.sso_token.CachedSsoToken.{CachedSsoToken}
use Rattle.cfg_token.specs.Readings.{EndsAfter}
use Rattle.cfg_kept.specs.Kinds.{Value}
use Rattle.cfg_sso.specs.declared.config.SsoProviderConfig.{SsoProviderConfig}
use Rattle.cfg_sso.specs.RoleKeys.{Answer, request as request_of}
use Rattle.cfg_sso.specs.Tokens.{sso_key}
use Rattle.cfg_sso.specs.SsoCauses.{IsTokenPart}

-- a request for the credentials of a role
abbrev pub is_role_request : Question → Bool
is_role_request (question.Send (request.GetRoleCredentials call)) = true
is_role_request _ = false

-- No entry is such a request.
abbrev pub AsksNoRole : List Pair → Type 0
AsksNoRole [] = Unit {0}
AsksNoRole (e ∷ part) = (is_role_request e.0 ≡ false) × AsksNoRole part

-- Behind the part that gave a token stands one request with it, and no other. The token ends after the last
-- reading of that part.
pub record SendsOnce (conf : Configuration) (sso : SsoProviderConfig) (found : List Value) (part : List Pair) : Type 0 where
  pub token_part : List Pair
  pub token : CachedSsoToken
  pub given : Given
  pub parts : part ≡ token_part ++ (question.Send (request.GetRoleCredentials (request_of conf sso token)), given) ∷ []
  pub of_token : IsTokenPart conf sso.start_url (sso_key sso) found token_part (Ok token)
  pub alone : AsksNoRole token_part
  pub unexpired : EndsAfter (last_reading token_part) token.expires_at

-- Nothing is sent for the role, and there are no credentials.
pub record SendsNothing (part : List Pair) (out : Answer) : Type 0 where
  pub alone : AsksNoRole part
  pub nothing : is_ok out ≡ false
