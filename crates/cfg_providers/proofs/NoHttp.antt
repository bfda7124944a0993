-- Providers that send no `Http` request.
use Rattle.std.proofs.Common.{ℕ, List, [], ◌∷◌, Option, Some, None, Result, Ok, Err, refl}
use Rattle.cfg_types.specs.Keys.{Keys}
use Rattle.cfg_types.specs.declared.errors.CredentialsError.{CredentialsError}
use Rattle.cfg_types.specs.declared.settings.CallSettings.{CallSettings}
use Rattle.cfg_world.specs.Leaves.{clock, reading_file, running, assuming, assuming_by_web_identity}
use Rattle.cfg_exchange.proofs.NoHttp.{NeverAsksHttp, after_without, bound_without}
use Rattle.cfg_profile.specs.declared.chain.RoleArn.{RoleArn}
use Rattle.cfg_profile.specs.Configuration.{Configuration}
use Rattle.cfg_providers.specs.declared.web_identity_token.SessionPolicies.{SessionPolicies}
use Rattle.cfg_providers.specs.declared.web_identity_token.StaticConfiguration.{StaticConfiguration}
use Rattle.cfg_providers.specs.declared.web_identity_token.WebIdentity.{WebIdentity}
use Rattle.cfg_providers.specs.AssumeRole.{role_session, exchange, assumes, assumes_roles}
use Rattle.cfg_providers.specs.Processes.{credential_process}
use Rattle.cfg_providers.specs.SessionNames.{session_name}
use Rattle.cfg_providers.specs.WebIdentities as identities
use Rattle.cfg_providers.specs.WebIdentities.{identity_of, identity_token, with_name, assumes_by_web_identity, by_identity, web_identity}

pub process_without : (command : List ℕ) (account : Option (List ℕ)) → NeverAsksHttp (credential_process command account)
unfolding credential_process running
process_without command account = (refl, λ a. tt)

-- ---- sessions of roles

pub name_without : (base : List ℕ) (name : Option (List ℕ)) → NeverAsksHttp (session_name base name)
unfolding session_name clock
name_without base (Some name) = tt
name_without base None = (refl, λ a. tt)

exchange_without : (settings : CallSettings) (role : RoleArn) (signer : Keys) (name : List ℕ) → NeverAsksHttp (exchange settings role signer name)
unfolding assuming
exchange_without settings role signer name = (refl, λ a. tt)

assumes_without : (settings : CallSettings) (signer : Keys) (role : RoleArn) → NeverAsksHttp (assumes settings signer role)
unfolding assumes
assumes_without settings signer role = after_without (session_name role_session role.session_name) (exchange settings role signer) (name_without role_session role.session_name) (exchange_without settings role signer)

pub roles_without : (settings : CallSettings) (roles : List RoleArn) (signer : Keys) → NeverAsksHttp (assumes_roles settings roles signer)
unfolding assumes_roles
roles_without settings [] signer = tt
roles_without settings (role ∷ roles) signer = bound_without (assumes settings signer role) (assumes_roles settings roles) (assumes_without settings signer role) (λ keys. roles_without settings roles keys)

-- ---- web identity

module _ (conf : Configuration) (policies : SessionPolicies) where
  with_token_without : (identity : WebIdentity) (name : List ℕ) (token : Result (List ℕ) CredentialsError) → NeverAsksHttp (identities.with_token conf identity policies name token)
  unfolding identities.with_token assuming_by_web_identity
  with_token_without identity name (Ok token) = (refl, λ a. tt)
  with_token_without identity name (Err e) = tt

  file_without : (file : List ℕ) → NeverAsksHttp (identity_token file)
  unfolding identity_token reading_file
  file_without file = (refl, λ a. tt)

  pub identity_without : (base : List ℕ) (identity : WebIdentity) → NeverAsksHttp (assumes_by_web_identity conf base identity policies)
  unfolding assumes_by_web_identity
  identity_without base identity =
      after_without (session_name base identity.session_name) (with_name conf identity policies) (name_without base identity.session_name) (λ name.
      after_without (identity_token identity.web_identity_token_file) (identities.with_token conf identity policies name) (file_without identity.web_identity_token_file) (with_token_without identity name))

  by_identity_without : (identity : Result WebIdentity CredentialsError) → NeverAsksHttp (by_identity conf policies identity)
  by_identity_without (Ok identity) = identity_without _ identity
  by_identity_without (Err e) = tt

  pub web_identity_without : (given : Option StaticConfiguration) → NeverAsksHttp (web_identity conf given policies)
  unfolding web_identity
  web_identity_without given = by_identity_without (identity_of conf.environment given)
