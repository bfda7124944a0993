-- Why an input is not read, and what is left of one that is too long.
use Rattle.std.specs.Prelude.{◌≡◌, ℕ, ◌+◌, ◌<◌, List, length, drop, Option, Some, IfSome}
use Rattle.cfg_world.specs.declared.streams.StreamFault.{StreamFault}
use Rattle.cfg_world.specs.declared.streams.StreamFault.TheVariants as fault
use Rattle.cfg_program.specs.declared.input.InputError.{InputError}
use Rattle.cfg_program.specs.declared.input.InputError.TheVariants as error

-- why an input is not read, by the fault of its source
abbrev pub error_from : StreamFault → InputError
error_from fault.Failed = error.Fault
error_from fault.OutOfMemory = error.OutOfMemory

-- how many bytes a script may have
abbrev pub most_bytes : ℕ
most_bytes = 1048576

-- There are more bytes than a script may have. Of these one more than the limit is read, and the
-- others are left.
abbrev pub IsTooLong : Option (List ℕ) → Option (List ℕ) → Type 0
IsTooLong left left_after = IfSome left (λ b. (most_bytes < length b) × (left_after ≡ Some (drop (most_bytes + 1) b)))
