-- Receipts of entries that stand in no journal.
use Rattle.std.specs.Prelude.{◌≡◌, ◌⊎◌, ℕ, ◌+◌, min, List, [], ◌∷◌, Contains}
use Rattle.cfg_world.specs.Fits.{Pair}
use Rattle.cfg_world.specs.Faults.{full_count}

-- Of these receipts so many are not among the entries.
abbrev pub Strays : List Pair → List Pair → ℕ → Type 0
Strays entries [] number = number ≡ 0
Strays entries (e ∷ receipts) number =
    (Contains entries e × Strays entries receipts number)
    ⊎ ((¬ Contains entries e) × ((fewer : ℕ) × (number ≡ fewer + 1) × Strays entries receipts fewer))

-- The count has grown by their number, or up to the end of 64 bits.
pub record AddsStrays (entries receipts : List Pair) (before count : ℕ) : Type 0 where
  pub number : ℕ
  pub strays : Strays entries receipts number
  pub counted : count ≡ min (before + number) full_count

-- The count is their number, or the end of 64 bits.
abbrev pub IsStrayCount : List Pair → List Pair → ℕ → Type 0
IsStrayCount entries receipts count = AddsStrays entries receipts 0 count
