-- Why the environment gives no credentials, by what it finds.
use Rattle.std.proofs.Common.{◌≡◌, ℕ, List, [], ◌∷◌, Bool, true, false, Option, Some, None, Result, Ok, refl}
use Rattle.std.specs.Option.{option_or}
use Rattle.std.specs.Prelude.{not, ◌&&◌, ◌||◌, is_some, is_none, codes, option_map, if◌then◌else◌}
use Rattle.std.specs.Result.{result_err}
use Rattle.cfg_types.specs.Keys.{Keys}
use Rattle.cfg_types.specs.declared.errors.CredentialsError.{CredentialsError}
use Rattle.cfg_types.specs.declared.errors.CredentialsError as errors
use denote.Hole.Carrier as carrier
use Rattle.cfg_types.specs.declared.credentials.AwsCredentialFeature.TheVariants.{CredentialsEnvVars}
use Rattle.cfg_types.specs.Environment.{Variables, variable}
use Rattle.cfg_base.specs.Gives.{◌>>=◌}
use Rattle.cfg_providers.specs.EnvironmentKeys.{not_set, required_by, secret_or, optional, usable, is_not_unicode, environment}
use Rattle.cfg_types.specs.Classes.{is_not_loaded_answer}
use Rattle.cfg_providers.specs.EnvironmentCauses.{not_unicode, environment_is_passed_over, unreadable_variable, why_environment, named_variable}

abbrev id_name : List ℕ
id_name = codes "AWS_ACCESS_KEY_ID"

abbrev older_name : List ℕ
older_name = codes "SECRET_ACCESS_KEY"

-- the environment's answer by what it finds: the access key, the secret, the older secret
abbrev keys_by : Option (List ℕ) → Bool → Option (List ℕ) → Option (List ℕ) → Bool → Option (List ℕ) → Option (List ℕ) → Result Keys CredentialsError
keys_by id id_unreadable secret older older_unreadable token account =
    required_by id_name id id_unreadable >>= λ i. secret_or secret (required_by older_name older older_unreadable) >>= λ s. Ok (record {
      access_key_id = i;
      secret_access_key = s;
      session_token = token;
      expiry = None;
      account_id = account;
      provider_name = codes "EnvironmentVariable";
      features = CredentialsEnvVars ∷ [];
    })

-- the first variable with a fault, where these have it
abbrev first_by : Bool → Bool → Bool → Option (List ℕ)
first_by id_fault needs_older older_fault = if id_fault then Some id_name else (if needs_older && older_fault then Some older_name else None)

abbrev unreadable_by : Option (List ℕ) → Bool → Option (List ℕ) → Option (List ℕ) → Bool → Option (List ℕ)
unreadable_by id id_unreadable secret older older_unreadable =
    first_by (is_none id && id_unreadable) (is_some id && is_none secret) (is_none older && older_unreadable)

abbrev missing_by : Option (List ℕ) → Bool → Option (List ℕ) → Option (List ℕ) → Bool → Option (List ℕ)
missing_by id id_unreadable secret older older_unreadable =
    first_by (is_none id && not id_unreadable) (is_some id && is_none secret) (is_none older && not older_unreadable)

record Fails (out : Result Keys CredentialsError) (unreadable missing : Option (List ℕ)) (passed : Bool) : Type 0 where
  cause : result_err out ≡ option_or (option_map not_unicode unreadable) (option_map not_set missing)
  not_loaded : is_not_loaded_answer out ≡ passed
  named : named_variable out ≡ unreadable

fails : (id : Option (List ℕ)) (id_unreadable : Bool) (secret older : Option (List ℕ)) (older_unreadable : Bool) (token account : Option (List ℕ)) →
    Fails (keys_by id id_unreadable secret older older_unreadable token account) (unreadable_by id id_unreadable secret older older_unreadable) (missing_by id id_unreadable secret older older_unreadable)
    ((is_none id && not id_unreadable) || ((is_some id && is_none secret) && (is_none older && not older_unreadable)))
unfolding errors.out-CredentialsError carrier.out
fails None true secret older v token account = record { cause = refl; not_loaded = refl; named = refl }
fails None false secret older v token account = record { cause = refl; not_loaded = refl; named = refl }
fails (Some i) u (Some s) older v token account = record { cause = refl; not_loaded = refl; named = refl }
fails (Some i) u None (Some s) v token account = record { cause = refl; not_loaded = refl; named = refl }
fails (Some i) u None None true token account = record { cause = refl; not_loaded = refl; named = refl }
fails (Some i) u None None false token account = record { cause = refl; not_loaded = refl; named = refl }

fails_by : (env : Variables) → Fails (environment env) (unreadable_variable env)
    (missing_by (usable (variable env id_name)) (is_not_unicode (variable env id_name)) (usable (variable env (codes "AWS_SECRET_ACCESS_KEY"))) (usable (variable env older_name)) (is_not_unicode (variable env older_name)))
    (environment_is_passed_over env)
unfolding environment
fails_by env =
    fails (usable (variable env id_name)) (is_not_unicode (variable env id_name)) (usable (variable env (codes "AWS_SECRET_ACCESS_KEY")))
    (usable (variable env older_name)) (is_not_unicode (variable env older_name))
    (optional (variable env (codes "AWS_SESSION_TOKEN"))) (optional (variable env (codes "AWS_ACCOUNT_ID")))

pub environment_cause : (env : Variables) → result_err (environment env) ≡ why_environment env
environment_cause env = (fails_by env).cause

pub environment_not_loaded : (env : Variables) → is_not_loaded_answer (environment env) ≡ environment_is_passed_over env
environment_not_loaded env = (fails_by env).not_loaded

pub environment_not_unicode : (env : Variables) → named_variable (environment env) ≡ unreadable_variable env
environment_not_unicode env = (fails_by env).named
