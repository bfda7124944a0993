-- One session by web identity.
use Rattle.std.proofs.Common.{ℕ, List, Result}
use Rattle.cfg_types.specs.Keys.{Keys}
use Rattle.cfg_types.specs.declared.errors.CredentialsError.{CredentialsError}
use Rattle.cfg_world.specs.declared.asking.Asking.{Ghosts}
use Rattle.cfg_world.specs.Follows.{Ends}
use Rattle.cfg_world.proofs.Inquiries.{ends_after}
use Rattle.cfg_profile.specs.Configuration.{Configuration}
use Rattle.cfg_providers.specs.declared.web_identity_token.WebIdentity.{WebIdentity}
use Rattle.cfg_providers.specs.declared.web_identity_token.SessionPolicies.{SessionPolicies}
use Rattle.cfg_providers.specs.SessionNames.{session_name}
use Rattle.cfg_providers.specs.WebIdentities.{identity_token, with_token, with_name, assumes_by_web_identity}

module _ {W : Type 0} {w : Ghosts W} where
  -- a name, the file, and one exchange
  pub identity_assumed : {old named read new : W} (conf : Configuration) (base : List ℕ) (identity : WebIdentity) (policies : SessionPolicies) (name : List ℕ) (token : Result (List ℕ) CredentialsError) (out : Result Keys CredentialsError) →
      Ends w (session_name base identity.session_name) old named name → Ends w (identity_token identity.web_identity_token_file) named read token →
      Ends w (with_token conf identity policies name token) read new out → Ends w (assumes_by_web_identity conf base identity policies) old new out
  unfolding assumes_by_web_identity
  identity_assumed conf base identity policies name token out a b c =
      ends_after (with_name conf identity policies) a (ends_after (with_token conf identity policies name) b c)
