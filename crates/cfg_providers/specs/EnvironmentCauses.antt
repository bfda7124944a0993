-- Where the environment gives no credentials, and why.
use Rattle.std.specs.Option.{option_or}
use Rattle.std.specs.Prelude.{ℕ, List, Bool, not, ◌&&◌, ◌||◌, Option, Some, None, is_some, is_none, option_map, option_and_then, Result, Ok, Err, codes, if◌then◌else◌}
use Rattle.cfg_types.specs.Keys.{Keys}
use Rattle.cfg_types.specs.Classes.{unhandled_cause}
use Rattle.cfg_types.specs.Environment.{Variables, variable}
use Rattle.cfg_types.specs.declared.errors.CredentialsError.{CredentialsError}
use Rattle.cfg_types.specs.declared.errors.CredentialsError.TheVariants.{Unhandled}
use Rattle.cfg_types.specs.declared.errors.UnhandledCause.{UnhandledCause}
use Rattle.cfg_types.specs.declared.errors.UnhandledCause.TheVariants as unhandled
use Rattle.cfg_providers.specs.EnvironmentKeys.{usable, is_not_unicode, not_set}

-- a variable that is absent or blank
abbrev pub is_missing : Variables → List ℕ → Bool
is_missing env name = is_none (usable (variable env name)) && not (is_not_unicode (variable env name))

-- a variable whose value is no text
abbrev pub is_unreadable : Variables → List ℕ → Bool
is_unreadable env name = is_none (usable (variable env name)) && is_not_unicode (variable env name)

-- The older name of the secret is looked at where there is an access key, and the secret is absent,
-- blank or not Unicode.
abbrev pub needs_older_secret : Variables → Bool
needs_older_secret env = is_some (usable (variable env (codes "AWS_ACCESS_KEY_ID"))) && is_none (usable (variable env (codes "AWS_SECRET_ACCESS_KEY")))

-- The environment is passed over exactly where the access key is absent or blank, or where the older
-- secret is looked at and is absent or blank.
abbrev pub environment_is_passed_over : Variables → Bool
environment_is_passed_over env = is_missing env (codes "AWS_ACCESS_KEY_ID") || (needs_older_secret env && is_missing env (codes "SECRET_ACCESS_KEY"))

-- the first variable that is looked at and has this fault
abbrev pub first_with : (Variables → List ℕ → Bool) → Variables → Option (List ℕ)
first_with has_fault env =
    if has_fault env (codes "AWS_ACCESS_KEY_ID") then Some (codes "AWS_ACCESS_KEY_ID")
    else (if needs_older_secret env && has_fault env (codes "SECRET_ACCESS_KEY") then Some (codes "SECRET_ACCESS_KEY") else None)

-- the variable for which the environment is passed over, since it is absent or blank
abbrev pub missing_variable : Variables → Option (List ℕ)
missing_variable env = first_with is_missing env

-- the variable that stops the environment, since it is not Unicode
abbrev pub unreadable_variable : Variables → Option (List ℕ)
unreadable_variable env = first_with is_unreadable env

-- the answer for a variable that is not Unicode
abbrev pub not_unicode : List ℕ → CredentialsError
not_unicode name = Unhandled (unhandled.NotUnicode name)

-- The error of the environment: a variable that is not Unicode, or one that is absent or blank.
abbrev pub why_environment : Variables → Option CredentialsError
why_environment env = option_or (option_map not_unicode (unreadable_variable env)) (option_map not_set (missing_variable env))

abbrev pub variable_of_cause : UnhandledCause → Option (List ℕ)
variable_of_cause (unhandled.NotUnicode name) = Some name
variable_of_cause _ = None

-- the variable that an answer names as not Unicode
abbrev pub named_variable : Result Keys CredentialsError → Option (List ℕ)
named_variable (Ok keys) = None
named_variable (Err e) = option_and_then variable_of_cause (unhandled_cause e)
