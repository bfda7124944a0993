-- What chains of bearer tokens say of answers.
use Rattle.std.specs.Prelude.{List, Bool}
use Rattle.cfg_types.specs.TokenClasses.{token_class, is_not_loaded_class, is_memory_class}
use Rattle.cfg_types.specs.declared.errors.ProviderAttempt.{ProviderAttempt}
use Rattle.cfg_types.specs.declared.errors.token.TokenCause.TheVariants.{Chain}
use Rattle.cfg_types.specs.declared.errors.token.TokenError.{TokenError}
use Rattle.cfg_types.specs.declared.errors.token.TokenError.TheVariants.{TokenNotLoaded}
use Rattle.cfg_meta.specs.AnswerRules.{AnswerRules}

-- the error of a provider that was not loaded
abbrev pub is_not_loaded : TokenError → Bool
is_not_loaded e = is_not_loaded_class (token_class e)

-- the error of a chain of which no member was loaded
abbrev pub none_loaded : List (ProviderAttempt TokenError) → TokenError
none_loaded attempts = TokenNotLoaded (Chain (record { attempts = attempts }))

abbrev pub is_memory_error : TokenError → Bool
is_memory_error e = is_memory_class (token_class e)

-- what chains of bearer tokens say of answers
abbrev pub token_rules : AnswerRules TokenError
token_rules = record { is_not_loaded = is_not_loaded; none_loaded = none_loaded; is_memory = is_memory_error }
