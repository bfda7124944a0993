-- What a call of the chain answers that may run out of memory.
use Rattle.std.specs.Prelude.{◌≡◌, Result, Ok, Err}
use Rattle.cfg_base.specs.Gives.{Gives}
use Rattle.cfg_world.specs.declared.asking.Halt.{Halt}
use Rattle.cfg_world.specs.declared.asking.Halt.TheVariants.{Stopped, Refused}
use Rattle.cfg_world.specs.declared.asking.Stop.TheVariants.{OutOfMemory}

-- the answer, its value seen by view, is this one; a halt that is no refusal answers nothing
abbrev pub IsAnswered : {X Y E : Type 0} → (X → Y) → Result Y E → Result X (Halt E) → Type 0
IsAnswered view said (Ok x) = said ≡ Ok (view x)
IsAnswered view said (Err (Refused e)) = said ≡ Err e
IsAnswered view said (Err (Stopped stop)) = ⊥

-- The call answered, seen by view, what the definition says, unless memory ran out.
abbrev pub GivesAnswer : {X Y E : Type 0} → (X → Y) → Result X (Halt E) → Result Y E → Type 0
GivesAnswer view result said = Gives (Stopped OutOfMemory) result (IsAnswered view said)
