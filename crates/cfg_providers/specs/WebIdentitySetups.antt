-- What a provider of web identity was set to, and what it asks.
use Rattle.std.specs.Prelude.{ℕ, List, Option, Result, String, string_bytes, refl}
use Rattle.std.specs.Coded.{Coded, code_by, coded×, coded_option}
use Rattle.cfg_base.specs.Text.{characters}
use Rattle.cfg_types.specs.Keys.{Keys}
use Rattle.cfg_types.specs.declared.errors.CredentialsError.{CredentialsError}
use Rattle.cfg_world.specs.Fits.{Pair}
use Rattle.cfg_world.specs.Inquiry.{Inquiry}
use Rattle.cfg_profile.specs.Configuration.{Configuration, configuration_code}
use Rattle.cfg_providers.specs.declared.web_identity_token.StaticConfiguration.{StaticConfiguration}
use Rattle.cfg_providers.specs.declared.web_identity_token.SessionPolicies.{SessionPolicies}
use Rattle.cfg_providers.specs.contracts.web_identity_token.StaticConfiguration as given
use Rattle.cfg_providers.specs.contracts.web_identity_token.SessionPolicies as policies
use Rattle.cfg_providers.specs.WebIdentities.{web_identity, why_web_identity}

pub record WebIdentitySetup : Type 0 where
  pub configuration : Configuration
  -- a web identity in place of the environment's
  pub given : Option StaticConfiguration
  -- what limits its sessions
  pub policies : SessionPolicies

abbrev pub web_identity_setup_code : Coded WebIdentitySetup
web_identity_setup_code = code_by (Configuration × (Option StaticConfiguration × SessionPolicies))
    (coded× configuration_code (coded× (coded_option given.the_row.coded) policies.the_row.coded))
    (λ s. (s.configuration, (s.given, s.policies)))
    (λ p. record { configuration = p.0; given = p.1.0; policies = p.1.1 }) (λ _. refl)

-- what is asked, and what it gives
abbrev pub asks_identity : WebIdentitySetup → Inquiry (Result Keys CredentialsError)
asks_identity setup = web_identity setup.configuration setup.given setup.policies

-- why it gives no credentials, over its part
abbrev pub why_none : WebIdentitySetup → List Pair → Option CredentialsError
why_none setup part = why_web_identity setup.configuration setup.given part

-- the text of a string
abbrev pub text_of_string : {Y : Type 0} → String Y → List ℕ
text_of_string string = characters (string_bytes string)
