-- Numbers by name, and what a list has under a name.
use Rattle.std.specs.Prelude.{◌≡◌, ◌<◌, ℕ, List, Option, Some, slice_get}
use Rattle.std.specs.Option.{option_and_then}
use Rattle.std.specs.FinMap.{get, len}
use Rattle.cfg_base.specs.TextMap.{Named}

-- each number is below the number of names
abbrev pub AreBelow : Named ℕ → Type 0
AreBelow numbers = (name : List ℕ) (i : ℕ) → get numbers name ≡ Some i → i < len numbers

-- no other name has this number
abbrev pub IsOnlyAt : Named ℕ → List ℕ → ℕ → Type 0
IsOnlyAt numbers name i = (other : List ℕ) → get numbers other ≡ Some i → other ≡ name

-- The numbers are below the number of names, and no two names have one.
pub record AreNumbered (numbers : Named ℕ) : Type 0 where
  pub below : AreBelow numbers
  pub apart : (name : List ℕ) (i : ℕ) → get numbers name ≡ Some i → IsOnlyAt numbers name i

-- what stands in a list at a name's number
abbrev pub at_name : {X : Type 0} → Named ℕ → List X → List ℕ → Option X
at_name numbers items name = option_and_then (λ i. slice_get items i) (get numbers name)
