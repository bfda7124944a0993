-- Credentials as contracts see them.
use Rattle.std.specs.Prelude.{ℕ, List, [], Option, None}
use Rattle.cfg_base.specs.Moment.{Moment}
use Rattle.cfg_types.specs.declared.credentials.AwsCredentialFeature.{AwsCredentialFeature}

-- id, secret, session token, expiry, account, provider and features
pub record Keys : Type 0 where
  pub access_key_id : List ℕ
  pub secret_access_key : List ℕ
  pub session_token : Option (List ℕ)
  pub expiry : Option Moment
  pub account_id : Option (List ℕ)
  pub provider_name : List ℕ
  pub features : List AwsCredentialFeature

-- an access key and its secret from a provider, and nothing more
abbrev pub bare_keys : List ℕ → List ℕ → List ℕ → Keys
bare_keys id secret provider = record {
  access_key_id = id;
  secret_access_key = secret;
  session_token = None;
  expiry = None;
  account_id = None;
  provider_name = provider;
  features = [];
}
