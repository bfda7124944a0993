-- What kind of error a `CredentialsError` is, and the cause that it holds.
use Rattle.std.specs.Prelude.{ℕ, List, Bool, true, false, Option, Some, None, Result, Ok, Err, codes}
use Rattle.cfg_types.specs.Keys.{Keys}
use Rattle.cfg_types.specs.declared.errors.Class.{Class}
use Rattle.cfg_types.specs.declared.errors.Class.TheVariants as class
use Rattle.cfg_types.specs.declared.errors.ConfigCause.{ConfigCause}
use Rattle.cfg_types.specs.declared.errors.UnhandledCause.{UnhandledCause}
use Rattle.cfg_types.specs.declared.errors.NotLoadedCause.{NotLoadedCause}
use Rattle.cfg_types.specs.declared.errors.ProviderCause.{ProviderCause}
use Rattle.cfg_types.specs.declared.errors.CredentialsError.{CredentialsError, out-CredentialsError}
use Rattle.cfg_types.specs.declared.errors.CredentialsError.TheOpen.{CredentialsError-F}

abbrev pub class_level : CredentialsError-F CredentialsError NotLoadedCause ProviderCause → Class
class_level (CredentialsError-F.CredentialsNotLoaded cause) = class.CredentialsNotLoaded
class_level CredentialsError-F.ProviderTimedOut = class.ProviderTimedOut
class_level (CredentialsError-F.InvalidConfiguration cause) = class.InvalidConfiguration
class_level (CredentialsError-F.ProviderError cause) = class.ProviderError
class_level (CredentialsError-F.Unhandled cause) = class.Unhandled
class_level CredentialsError-F.OutOfMemory = class.OutOfMemory

-- the class of an error: its variant, without what it holds
abbrev pub class_of : CredentialsError → Class
class_of e = class_level (out-CredentialsError e)

-- the name of a class is that of its variant
abbrev pub class_name : Class → List ℕ
class_name class.CredentialsNotLoaded = codes "CredentialsNotLoaded"
class_name class.ProviderTimedOut = codes "ProviderTimedOut"
class_name class.InvalidConfiguration = codes "InvalidConfiguration"
class_name class.ProviderError = codes "ProviderError"
class_name class.Unhandled = codes "Unhandled"
class_name class.OutOfMemory = codes "OutOfMemory"

abbrev pub same_class : Class → Class → Bool
same_class class.CredentialsNotLoaded class.CredentialsNotLoaded = true
same_class class.ProviderTimedOut class.ProviderTimedOut = true
same_class class.InvalidConfiguration class.InvalidConfiguration = true
same_class class.ProviderError class.ProviderError = true
same_class class.Unhandled class.Unhandled = true
same_class class.OutOfMemory class.OutOfMemory = true
same_class _ _ = false

-- whether an error is of this class
abbrev pub is_of_class : Class → CredentialsError → Bool
is_of_class c e = same_class c (class_of e)

-- whether an answer says that nothing was loaded
abbrev pub is_not_loaded_answer : Result Keys CredentialsError → Bool
is_not_loaded_answer (Ok keys) = false
is_not_loaded_answer (Err e) = is_of_class class.CredentialsNotLoaded e

-- whether an answer says that memory ran out
abbrev pub is_memory : Result Keys CredentialsError → Bool
is_memory (Ok keys) = false
is_memory (Err e) = is_of_class class.OutOfMemory e

abbrev pub configuration_cause_level : CredentialsError-F CredentialsError NotLoadedCause ProviderCause → Option ConfigCause
configuration_cause_level (CredentialsError-F.InvalidConfiguration cause) = Some cause
configuration_cause_level _ = None

-- the cause of an invalid configuration
abbrev pub configuration_cause : CredentialsError → Option ConfigCause
configuration_cause e = configuration_cause_level (out-CredentialsError e)

abbrev pub provider_cause_level : CredentialsError-F CredentialsError NotLoadedCause ProviderCause → Option ProviderCause
provider_cause_level (CredentialsError-F.ProviderError cause) = Some cause
provider_cause_level _ = None

-- the cause of a provider's error
abbrev pub provider_cause : CredentialsError → Option ProviderCause
provider_cause e = provider_cause_level (out-CredentialsError e)

abbrev pub unhandled_cause_level : CredentialsError-F CredentialsError NotLoadedCause ProviderCause → Option UnhandledCause
unhandled_cause_level (CredentialsError-F.Unhandled cause) = Some cause
unhandled_cause_level _ = None

-- the cause that no rule allows for
abbrev pub unhandled_cause : CredentialsError → Option UnhandledCause
unhandled_cause e = unhandled_cause_level (out-CredentialsError e)
