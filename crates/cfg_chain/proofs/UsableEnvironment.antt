-- What the environment gives, by what its variables are set to.
use Rattle.std.proofs.Common.{◌≡◌, ◌≢◌, ◌⊎◌, inl, inr, ℕ, List, Bool, true, false, Option, Some, None, Result, Ok, Err, option_map, refl, ap, ◌∙◌}
use Rattle.std.specs.Option.{option_or}
use Rattle.std.specs.Prelude.{not, ◌&&◌, IsSome, IsNone, is_some, is_none, is_ok, codes, if◌then◌else◌}
use Rattle.std.specs.Result.{result_err}
use Rattle.cfg_types.specs.declared.environment.VarError.{VarError}
use Rattle.cfg_types.specs.declared.environment.VarError.TheVariants.{NotPresent, NotUnicode}
use Rattle.cfg_types.specs.Environment.{Variables, variable}
use Rattle.cfg_providers.specs.CustomSources.{Answer}
use Rattle.cfg_providers.specs.EnvironmentKeys.{usable, is_not_unicode, not_set, environment}
use Rattle.cfg_providers.specs.EnvironmentCauses.{not_unicode, unreadable_variable, missing_variable}
use Rattle.cfg_providers.proofs.EnvironmentFailures.{environment_cause}
use Rattle.cfg_chain.specs.Valid.{HasTexts, HoldsKeys}
use Rattle.cfg_chain.proofs.UsableEntries.{no_success}

abbrev id_name : List ℕ
id_name = codes "AWS_ACCESS_KEY_ID"

abbrev secret_name : List ℕ
secret_name = codes "AWS_SECRET_ACCESS_KEY"

abbrev older_name : List ℕ
older_name = codes "SECRET_ACCESS_KEY"

pub no_error : (out : Answer) → result_err out ≡ None → is_ok out ≡ true
no_error (Ok keys) h = refl
no_error (Err e) h = cc

-- the first variable with a fault, where these have it
abbrev first_by : Bool → Bool → Bool → Option (List ℕ)
first_by id_fault needs_older older_fault = if id_fault then Some id_name else (if needs_older && older_fault then Some older_name else None)

abbrev unreadable_by : Option (List ℕ) → Bool → Option (List ℕ) → Option (List ℕ) → Bool → Option (List ℕ)
unreadable_by id id_unreadable secret older older_unreadable =
    first_by (is_none id && id_unreadable) (is_some id && is_none secret) (is_none older && older_unreadable)

abbrev missing_by : Option (List ℕ) → Bool → Option (List ℕ) → Option (List ℕ) → Bool → Option (List ℕ)
missing_by id id_unreadable secret older older_unreadable =
    first_by (is_none id && not id_unreadable) (is_some id && is_none secret) (is_none older && not older_unreadable)

-- ---- the variables are texts

is_text : (v : Result (List ℕ) VarError) → v ≢ Err NotUnicode → is_not_unicode v ≡ false
is_text (Ok text) h = refl
is_text (Err NotPresent) h = refl
is_text (Err NotUnicode) h = absurd (h refl)

unstopped : (id : Option (List ℕ)) (id_unreadable : Bool) (secret older : Option (List ℕ)) (older_unreadable : Bool) →
    id_unreadable ≡ false → (IsSome id → IsNone secret → older_unreadable ≡ false) → unreadable_by id id_unreadable secret older older_unreadable ≡ None
unstopped id true secret older u a b = cc
unstopped None false secret older u a b = refl
unstopped (Some i) false (Some s) older u a b = refl
unstopped (Some i) false None (Some o) u a b = refl
unstopped (Some i) false None None true a b = let no : true ≡ false = b refl refl in cc
unstopped (Some i) false None None false a b = refl

readable : (env : Variables) → HasTexts env → unreadable_variable env ≡ None
readable env h =
    unstopped (usable (variable env id_name)) (is_not_unicode (variable env id_name)) (usable (variable env secret_name))
    (usable (variable env older_name)) (is_not_unicode (variable env older_name))
    (is_text (variable env id_name) h.access_key) (λ some none. is_text (variable env older_name) (h.older_secret some none))

-- Where the variables are texts, no credentials are there only where one is missing.
pub texts_cause : (env : Variables) → HasTexts env → result_err (environment env) ≡ option_map not_set (missing_variable env)
texts_cause env h = environment_cause env ∙ ap (λ u. option_or (option_map not_unicode u) (option_map not_set (missing_variable env))) (readable env h)

-- ---- the environment has keys

kept : (id : Option (List ℕ)) (id_unreadable : Bool) (secret older : Option (List ℕ)) (older_unreadable : Bool) → IsSome id → IsSome secret ⊎ IsSome older →
    option_or (option_map not_unicode (unreadable_by id id_unreadable secret older older_unreadable)) (option_map not_set (missing_by id id_unreadable secret older older_unreadable)) ≡ None
kept None u secret older v some either = no_success some
kept (Some i) u (Some s) older v some either = refl
kept (Some i) u None (Some o) v some either = refl
kept (Some i) u None None v some (inl h) = no_success h
kept (Some i) u None None v some (inr h) = no_success h

pub keys_given : (env : Variables) → HoldsKeys env → is_ok (environment env) ≡ true
keys_given env h =
    no_error (environment env)
    (environment_cause env
    ∙ kept (usable (variable env id_name)) (is_not_unicode (variable env id_name)) (usable (variable env secret_name))
    (usable (variable env older_name)) (is_not_unicode (variable env older_name)) h.access_key h.secret)
