-- Credentials as a sign-in session gives them.
use Rattle.std.specs.Prelude.{◌≡◌, List, [], IfSome, IsSome, codes}
use Rattle.cfg_types.specs.Keys.{Keys}
use Rattle.cfg_types.specs.declared.credentials.AwsCredentialFeature.{AwsCredentialFeature}
use Rattle.cfg_kept.specs.Kinds.{Value}
use Rattle.cfg_kept.specs.LoginHoldings.{login_spot}
use Rattle.cfg_kept.specs.SectionParts.{found_at}

-- Named `Login`, with a session token, an end and an account, and marked by these features.
pub record IsOfSession (marks : List AwsCredentialFeature) (keys : Keys) : Type 0 where
  pub name : keys.provider_name ≡ codes "Login"
  pub session_token : IsSome keys.session_token
  pub expiry : IsSome keys.expiry
  pub account : IsSome keys.account_id
  pub features : keys.features ≡ marks

-- Where a token was found, its credentials are of a session, and nothing is marked yet.
abbrev pub FindsSession : List Value → Type 0
FindsSession found = IfSome (found_at login_spot found).token (λ token. IsOfSession [] token.access_token)
