-- What a function answers that reads a value of a script.
use Rattle.std.specs.Prelude.{◌≡◌, ◌⊎◌, Result, Ok, Err}
use Rattle.cfg_script.specs.declared.fault.Fault.{Fault}
use Rattle.cfg_script.specs.declared.fault.FormError.{FormError}
use Rattle.cfg_script.specs.declared.fault.FormError.TheVariants as error
use Rattle.cfg_script.specs.declared.fault.Wanted.TheVariants as wanted
use Rattle.cfg_script.specs.Faults.{here}

-- the fault that an error carries; out of memory carries none, and any stands for it
abbrev pub carried : FormError → Fault
carried (error.Fault fault) = fault
carried error.OutOfMemory = here wanted.Object

-- what was read, seen by view, is what the form says; an error is that memory ran out, or carries the form's fault
abbrev pub Reads : {X Y : Type 0} → (X → Y) → Result X FormError → Result Y Fault → Type 0
Reads view (Ok x) said = said ≡ Ok (view x)
Reads view (Err e) said = (e ≡ error.OutOfMemory) ⊎ (said ≡ Err (carried e))
