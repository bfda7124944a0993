-- What kind of error a `TokenError` is.
use Rattle.std.specs.Prelude.{ℕ, List, Bool, true, false, codes}
use Rattle.cfg_types.specs.declared.errors.token.TokenClass.{TokenClass}
use Rattle.cfg_types.specs.declared.errors.token.TokenClass.TheVariants as class
use Rattle.cfg_types.specs.declared.errors.token.TokenCause.{TokenCause}
use Rattle.cfg_types.specs.declared.errors.token.TokenError.{TokenError, out-TokenError}
use Rattle.cfg_types.specs.declared.errors.token.TokenCause.TheOpen.{TokenError-F}

abbrev pub token_class_level : TokenError-F TokenCause TokenError → TokenClass
token_class_level (TokenError-F.TokenNotLoaded cause) = class.TokenNotLoaded
token_class_level TokenError-F.ProviderTimedOut = class.ProviderTimedOut
token_class_level (TokenError-F.InvalidConfiguration cause) = class.InvalidConfiguration
token_class_level (TokenError-F.ProviderError cause) = class.ProviderError
token_class_level (TokenError-F.Unhandled text) = class.Unhandled
token_class_level TokenError-F.OutOfMemory = class.OutOfMemory

-- the class of an error: its variant, without what it holds
abbrev pub token_class : TokenError → TokenClass
token_class e = token_class_level (out-TokenError e)

-- the name of a class is that of its variant
abbrev pub token_class_name : TokenClass → List ℕ
token_class_name class.TokenNotLoaded = codes "TokenNotLoaded"
token_class_name class.ProviderTimedOut = codes "ProviderTimedOut"
token_class_name class.InvalidConfiguration = codes "InvalidConfiguration"
token_class_name class.ProviderError = codes "ProviderError"
token_class_name class.Unhandled = codes "Unhandled"
token_class_name class.OutOfMemory = codes "OutOfMemory"

abbrev pub is_not_loaded_class : TokenClass → Bool
is_not_loaded_class class.TokenNotLoaded = true
is_not_loaded_class _ = false

abbrev pub is_memory_class : TokenClass → Bool
is_memory_class class.OutOfMemory = true
is_memory_class _ = false
