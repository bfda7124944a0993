-- Faults of a cache.
use Rattle.std.specs.Prelude.{◌≡◌, ◌⊎◌, ◌++◌, ℕ, List, true, false, Result, Ok, Err, codes}
use Rattle.std.specs.Str.{encode_utf8_all}
use Rattle.cfg_types.specs.ChainTexts.{credentials_text}
use Rattle.cfg_types.specs.Classes.{is_memory}
use Rattle.cfg_types.specs.Keys.{Keys}
use Rattle.cfg_types.specs.declared.errors.CredentialsError.{CredentialsError}
use Rattle.cfg_identity.specs.declared.fault.CacheFault.{CacheFault}
use Rattle.cfg_identity.specs.declared.fault.CacheFault.TheVariants as fault

-- how a fault is shown
abbrev pub fault_text : CacheFault → List ℕ
fault_text (fault.Taken name) = codes "the name is taken: " ++ encode_utf8_all name
fault_text (fault.Unknown name) = codes "unknown name: " ++ encode_utf8_all name
fault_text fault.OutOfMemory = codes "out of memory"
fault_text (fault.Chain error) = credentials_text error

-- A chain's answer is told as that of a cache, where an error that memory ran out is one of the cache's own.
abbrev pub IsTold : Result Keys CredentialsError → Result Keys CacheFault → Type 0
IsTold (Ok keys) told = told ≡ Ok keys
IsTold (Err e) told =
    ((is_memory (Err e) ≡ false) × (told ≡ Err (fault.Chain e)))
    ⊎ ((is_memory (Err e) ≡ true) × (told ≡ Err fault.OutOfMemory))

-- What holds of a told answer: this of the chain's answer, or that where memory ran out. It is neither that a name
-- is taken nor that it is unknown.
abbrev pub Tells : (Result Keys CredentialsError → Type 0) → Type 0 → Result Keys CacheFault → Type 0
Tells answered ran_out (Ok keys) = answered (Ok keys)
Tells answered ran_out (Err (fault.Chain e)) = (is_memory (Err e) ≡ false) × answered (Err e)
Tells answered ran_out (Err fault.OutOfMemory) = ran_out
Tells answered ran_out (Err (fault.Taken name)) = ⊥
Tells answered ran_out (Err (fault.Unknown name)) = ⊥
