-- What chains of credentials providers say of answers.
use Rattle.std.specs.Prelude.{List, Bool}
use Rattle.cfg_types.specs.Classes.{is_of_class}
use Rattle.cfg_types.specs.declared.errors.Class.TheVariants as class
use Rattle.cfg_types.specs.declared.errors.CredentialsError.{CredentialsError}
use Rattle.cfg_types.specs.declared.errors.CredentialsError.TheVariants.{CredentialsNotLoaded}
use Rattle.cfg_types.specs.declared.errors.NotLoadedCause.TheVariants.{Chain}
use Rattle.cfg_types.specs.declared.errors.ProviderAttempt.{ProviderAttempt}
use Rattle.cfg_meta.specs.AnswerRules.{AnswerRules}

-- the error of a provider that was not loaded
abbrev pub is_not_loaded : CredentialsError → Bool
is_not_loaded e = is_of_class class.CredentialsNotLoaded e

-- the error of a chain of which no member was loaded
abbrev pub none_loaded : List (ProviderAttempt CredentialsError) → CredentialsError
none_loaded attempts = CredentialsNotLoaded (Chain (record { attempts = attempts }))

abbrev pub is_memory_error : CredentialsError → Bool
is_memory_error e = is_of_class class.OutOfMemory e

-- what chains of credentials providers say of answers
abbrev pub credentials_rules : AnswerRules CredentialsError
credentials_rules = record { is_not_loaded = is_not_loaded; none_loaded = none_loaded; is_memory = is_memory_error }
