-- What providers of sign-in credentials are set to.
use Rattle.std.specs.Prelude.{ℕ, List, refl}
use Rattle.std.specs.Coded.{Coded, code_by, coded×, coded_ℕ, coded_list}
use Rattle.cfg_profile.specs.Configuration.{Configuration, configuration_code}

-- a provider, or its builder: how its calls are made, and whose credentials are asked for
pub record SignInSetup : Type 0 where
  pub configuration : Configuration
  pub session : List ℕ

abbrev pub sign_in_setup_code : Coded SignInSetup
sign_in_setup_code = code_by (Configuration × List ℕ) (coded× configuration_code (coded_list coded_ℕ)) (λ s. (s.configuration, s.session)) (λ p. record { configuration = p.0; session = p.1 }) (λ _. refl)

-- a session, by this configuration
abbrev pub session_alone : Configuration → List ℕ → SignInSetup
session_alone conf session = record { configuration = conf; session = session }
