-- What providers of IAM Identity Center are set to.
use Rattle.std.specs.Prelude.{◌≡◌, ℕ, List, Bool, ◌&&◌, Option, Some, None, is_some, refl}
use Rattle.std.specs.Coded.{Coded, code_by, coded×, coded_ℕ, coded_list, coded_option}
use Rattle.cfg_profile.specs.Configuration.{Configuration, configuration_code}
use Rattle.cfg_token.specs.declared.token_key.TokenKey.{TokenKey}
use Rattle.cfg_token.specs.declared.token_key.TokenKey.TheVariants.{Sso}
use Rattle.cfg_token.specs.contracts.token_key.TokenKey as token_key
use Rattle.cfg_sso.specs.declared.config.SsoProviderConfig.{SsoProviderConfig}
use Rattle.cfg_sso.specs.contracts.config.SsoProviderConfig as asked

abbrev text_code : Coded (Option (List ℕ))
text_code = coded_option (coded_list coded_ℕ)

-- ---- credentials

-- a provider: how its calls are made, and what is asked for
pub record SsoSetup : Type 0 where
  pub configuration : Configuration
  pub sso : SsoProviderConfig

abbrev pub sso_setup_code : Coded SsoSetup
sso_setup_code = code_by (Configuration × SsoProviderConfig) (coded× configuration_code asked.the_row.coded) (λ s. (s.configuration, s.sso)) (λ p. record { configuration = p.0; sso = p.1 }) (λ _. refl)

-- its builder: what was set so far
pub record SsoBuild : Type 0 where
  pub configuration : Configuration
  pub account_id : Option (List ℕ)
  pub region : Option (List ℕ)
  pub role_name : Option (List ℕ)
  pub start_url : Option (List ℕ)
  pub session_name : Option (List ℕ)

abbrev pub sso_build_code : Coded SsoBuild
sso_build_code = code_by (Configuration × (Option (List ℕ) × (Option (List ℕ) × (Option (List ℕ) × (Option (List ℕ) × Option (List ℕ))))))
    (coded× configuration_code (coded× text_code (coded× text_code (coded× text_code (coded× text_code text_code)))))
    (λ s. (s.configuration, (s.account_id, (s.region, (s.role_name, (s.start_url, s.session_name))))))
    (λ p. record { configuration = p.0; account_id = p.1.0; region = p.1.1.0; role_name = p.1.1.1.0; start_url = p.1.1.1.1.0; session_name = p.1.1.1.1.1 }) (λ _. refl)

-- nothing but a configuration
abbrev pub nothing_set : Configuration → SsoBuild
nothing_set conf = record { configuration = conf; account_id = None; region = None; role_name = None; start_url = None; session_name = None }

-- all but the name of the session are there
abbrev pub is_complete : SsoBuild → Bool
is_complete b = is_some b.account_id && (is_some b.region && (is_some b.role_name && is_some b.start_url))

-- what a builder was set to that built this provider
abbrev pub build_of : SsoSetup → SsoBuild
build_of s = record {
  configuration = s.configuration;
  account_id = Some s.sso.account_id;
  region = Some s.sso.region;
  role_name = Some s.sso.role_name;
  start_url = Some s.sso.start_url;
  session_name = s.sso.session_name;
}

-- ---- tokens

-- a provider: how its calls are made, and whose token it is
pub record BearerSetup : Type 0 where
  pub configuration : Configuration
  pub key : TokenKey

abbrev pub bearer_setup_code : Coded BearerSetup
bearer_setup_code = code_by (Configuration × TokenKey) (coded× configuration_code token_key.the_row.coded) (λ s. (s.configuration, s.key)) (λ p. record { configuration = p.0; key = p.1 }) (λ _. refl)

-- its builder: what was set so far
pub record BearerBuild : Type 0 where
  pub configuration : Configuration
  pub region : Option (List ℕ)
  pub session_name : Option (List ℕ)
  pub start_url : Option (List ℕ)

abbrev pub bearer_build_code : Coded BearerBuild
bearer_build_code = code_by (Configuration × (Option (List ℕ) × (Option (List ℕ) × Option (List ℕ))))
    (coded× configuration_code (coded× text_code (coded× text_code text_code)))
    (λ s. (s.configuration, (s.region, (s.session_name, s.start_url))))
    (λ p. record { configuration = p.0; region = p.1.0; session_name = p.1.1.0; start_url = p.1.1.1 }) (λ _. refl)

abbrev pub nothing_named : Configuration → BearerBuild
nothing_named conf = record { configuration = conf; region = None; session_name = None; start_url = None }

-- all three are there
abbrev pub is_named : BearerBuild → Bool
is_named b = is_some b.region && (is_some b.session_name && is_some b.start_url)

-- A session by this name, there, where its users sign in so: what was set, and whose token it is.
pub record IsKeyOf (b : BearerBuild) (key : TokenKey) : Type 0 where
  pub session : List ℕ
  pub region : List ℕ
  pub url : List ℕ
  pub is_session : b.session_name ≡ Some session
  pub is_region : b.region ≡ Some region
  pub is_url : b.start_url ≡ Some url
  pub is_key : key ≡ Sso session region url
