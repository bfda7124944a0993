-- The environment's keys, one step after another.
use Rattle.std.proofs.Common.{◌≡◌, ℕ, List, [], ◌∷◌, Option, None, Result, Ok, refl, subst}
use Rattle.std.specs.Prelude.{codes}
use Rattle.cfg_types.specs.Keys.{Keys, bare_keys}
use Rattle.cfg_types.specs.declared.credentials.AwsCredentialFeature.{AwsCredentialFeature}
use Rattle.cfg_types.specs.declared.credentials.AwsCredentialFeature.TheVariants.{CredentialsEnvVars}
use Rattle.cfg_types.specs.declared.errors.CredentialsError.{CredentialsError}
use Rattle.cfg_types.specs.Environment.{Variables, variable}
use Rattle.cfg_world.specs.declared.asking.Halt.{Halt}
use Rattle.cfg_providers.specs.Gives.{GivesAnswer}
use Rattle.cfg_providers.specs.EnvironmentKeys.{access_key_id, secret, optional, environment}

pub said_so : {X Y : Type 0} (view : X → Y) (r : Result X (Halt CredentialsError)) (x y : Result Y CredentialsError) → x ≡ y → GivesAnswer view r x → GivesAnswer view r y
said_so view r x y e g = subst (λ said. GivesAnswer view r said) e g

-- all of them
pub environment_is : (env : Variables) (id key : List ℕ) (built : Keys) → access_key_id env ≡ Ok id → secret env ≡ Ok key
    → built ≡ record { access_key_id = id; secret_access_key = key; session_token = optional (variable env (codes "AWS_SESSION_TOKEN")); expiry = None; account_id = optional (variable env (codes "AWS_ACCOUNT_ID")); provider_name = codes "EnvironmentVariable"; features = CredentialsEnvVars ∷ [] }
    → environment env ≡ Ok built
unfolding environment
environment_is env id key built a b c = rw (a, b, c) refl

-- what the builder was given, one after the other
pub built_is : (a b c d e : Keys) (id key provider : List ℕ) (token account token_is account_is : Option (List ℕ)) (features features_are : List AwsCredentialFeature)
    → a ≡ bare_keys id key provider → b ≡ record a { session_token = token } → c ≡ record b { account_id = account } → d ≡ record c { features = features } → e ≡ d
    → token ≡ token_is → account ≡ account_is → features ≡ features_are
    → e ≡ record { access_key_id = id; secret_access_key = key; session_token = token_is; expiry = None; account_id = account_is; provider_name = provider; features = features_are }
built_is a b c d e id key provider token account token_is account_is features features_are ea eb ec ed ee et eu ef = rw (ee, ed, ec, eb, ea, et, eu, ef) refl
