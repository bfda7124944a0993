-- Credentials in environment variables, as the AWS SDKs and tools read them.
use Rattle.std.specs.Prelude.{ℕ, List, [], ◌∷◌, Bool, true, false, Option, Some, None, Result, Ok, Err, option_map, codes, if◌then◌else◌}
use Rattle.cfg_types.specs.declared.environment.VarError.{VarError}
use Rattle.cfg_types.specs.declared.environment.VarError.TheVariants as variable_error
use Rattle.cfg_types.specs.declared.errors.CredentialsError.{CredentialsError}
use Rattle.cfg_types.specs.declared.errors.CredentialsError.TheVariants.{CredentialsNotLoaded, Unhandled}
use Rattle.cfg_types.specs.declared.errors.NotLoadedCause.TheVariants.{NotSet}
use Rattle.cfg_types.specs.declared.errors.UnhandledCause.TheVariants.{NotUnicode}
use Rattle.cfg_types.specs.declared.credentials.AwsCredentialFeature.TheVariants.{CredentialsEnvVars}
use Rattle.cfg_types.specs.Keys.{Keys}
use Rattle.cfg_base.specs.WhiteSpace.{trimmed, is_blank}
use Rattle.cfg_types.specs.Environment.{Variables, variable}
use Rattle.cfg_base.specs.Gives.{◌>>=◌}
use Rattle.cfg_world.specs.Inquiry.{Inquiry, Done}

-- the answer for a variable that is not set, or blank
abbrev pub not_set : List ℕ → CredentialsError
not_set name = CredentialsNotLoaded (NotSet name)

-- a variable's text, where it can be read and is not blank
abbrev pub usable : Result (List ℕ) VarError → Option (List ℕ)
usable (Ok text) = if is_blank text then None else Some text
usable (Err e) = None

-- a variable whose value is no text
abbrev pub is_not_unicode : Result (List ℕ) VarError → Bool
is_not_unicode (Ok text) = false
is_not_unicode (Err variable_error.NotPresent) = false
is_not_unicode (Err variable_error.NotUnicode) = true

abbrev pub required_by : List ℕ → Option (List ℕ) → Bool → Result (List ℕ) CredentialsError
required_by name (Some text) unreadable = Ok text
required_by name None true = Err (Unhandled (NotUnicode name))
required_by name None false = Err (not_set name)

-- A variable that has to be there, and not blank. It is not trimmed.
abbrev pub required : List ℕ → Result (List ℕ) VarError → Result (List ℕ) CredentialsError
required name value = required_by name (usable value) (is_not_unicode value)

-- the access key of the environment, or why there is none
abbrev pub access_key_id : Variables → Result (List ℕ) CredentialsError
access_key_id env = required (codes "AWS_ACCESS_KEY_ID") (variable env (codes "AWS_ACCESS_KEY_ID"))

-- the secret under its older name, or why there is none
abbrev pub older_secret : Variables → Result (List ℕ) CredentialsError
older_secret env = required (codes "SECRET_ACCESS_KEY") (variable env (codes "SECRET_ACCESS_KEY"))

abbrev pub secret_or : Option (List ℕ) → Result (List ℕ) CredentialsError → Result (List ℕ) CredentialsError
secret_or (Some text) older = Ok text
secret_or None older = older

-- the first secret where it can be used, and else the older name
abbrev pub secret : Variables → Result (List ℕ) CredentialsError
secret env = secret_or (usable (variable env (codes "AWS_SECRET_ACCESS_KEY"))) (older_secret env)

-- a variable that may be missing: trimmed, and none where nothing is left
abbrev pub optional : Result (List ℕ) VarError → Option (List ℕ)
optional value = option_map trimmed (usable value)

-- the credentials that the environment holds
unfoldable pub environment : Variables → Result Keys CredentialsError
environment env = do
  id ← access_key_id env
  key ← secret env
  Ok (record {
    access_key_id = id;
    secret_access_key = key;
    session_token = optional (variable env (codes "AWS_SESSION_TOKEN"));
    expiry = None;
    account_id = optional (variable env (codes "AWS_ACCOUNT_ID"));
    provider_name = codes "EnvironmentVariable";
    features = CredentialsEnvVars ∷ [];
  })

-- the environment asks nothing
abbrev pub by_environment : Variables → Inquiry (Result Keys CredentialsError)
by_environment env = Done (environment env)
