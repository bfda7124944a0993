-- Why roles that are assumed one after another give no credentials.
use Rattle.std.specs.Option.{option_or}
use Rattle.std.specs.Prelude.{List, [], ◌∷◌, Option, None, option_map}
use Rattle.std.specs.Result.{result_err}
use Rattle.cfg_types.specs.Replies.{sts_in}
use Rattle.cfg_types.specs.declared.errors.CredentialsError.{CredentialsError}
use Rattle.cfg_types.specs.declared.errors.CredentialsError.TheVariants.{ProviderError}
use Rattle.cfg_types.specs.declared.errors.ProviderCause.TheVariants as cause
use Rattle.cfg_world.specs.declared.ask.Question.{Question}
use Rattle.cfg_world.specs.declared.ask.Question.TheVariants.{Send}
use Rattle.cfg_world.specs.declared.ask.Answer.{Answer}
use Rattle.cfg_world.specs.Fits.{Pair}
use Rattle.cfg_world.specs.Leaves.{granted_of}
use Rattle.cfg_providers.specs.AssumeRole.{granted}

-- why the exchange of an entry gives no credentials: it failed, was refused, or its reply cannot be used
abbrev pub exchange_failure : Question → Answer → Option CredentialsError
exchange_failure (Send request) answer = result_err (granted (granted_of sts_in answer))
exchange_failure _ answer = None

-- the first exchange of a part that gives no credentials
abbrev pub first_failure : List Pair → Option CredentialsError
first_failure [] = None
first_failure (e ∷ part) = option_or (exchange_failure e.0 e.1) (first_failure part)

abbrev pub of_role : CredentialsError → CredentialsError
of_role e = ProviderError (cause.Role e)

-- The error of roles: that of the first exchange that gives no credentials, told as a role's.
abbrev pub why_roles : List Pair → Option CredentialsError
why_roles part = option_map of_role (first_failure part)
