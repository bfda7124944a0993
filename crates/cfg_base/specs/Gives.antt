-- What a call answers that may run out of memory.
use Rattle.std.specs.Prelude.{◌≡◌, ◌⊎◌, Option, Some, None, Result, Ok, Err}

-- An answer is what is said. An error is that memory ran out, told by `memory`, or what is said.
abbrev pub Gives : {X E : Type 0} → E → Result X E → (Result X E → Type 0) → Type 0
Gives memory (Ok x) Said = Said (Ok x)
Gives memory (Err e) Said = (e ≡ memory) ⊎ Said (Err e)

-- the answer, its value seen by view, is this one
abbrev pub IsSaid : {X Y E : Type 0} → (X → Y) → Result Y E → Result X E → Type 0
IsSaid view said (Ok x) = said ≡ Ok (view x)
IsSaid view said (Err e) = said ≡ Err e

-- the value, seen by view, is the one that is there; where there is none, the answer is this refusal
abbrev pub IsRead : {X Y E : Type 0} → E → (X → Y) → Option Y → Result X E → Type 0
IsRead refusal view there (Ok x) = there ≡ Some (view x)
IsRead refusal view there (Err e) = (e ≡ refusal) × (there ≡ None)

-- the next step over the value of the first, or the error of the first
infixl 10 ◌>>=◌
abbrev pub ◌>>=◌ : {A B E : Type 0} → Result A E → (A → Result B E) → Result B E
(Ok x) >>= f = f x
(Err e) >>= f = Err e
