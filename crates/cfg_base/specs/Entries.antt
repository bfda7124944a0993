-- The map that a list of names and values stands for.
use Rattle.std.specs.Prelude.{◌≡◌, ◌≢◌, ℕ, List, ◌∷◌, ◌++◌, fold}
use Rattle.std.specs.List.{AllByRecursion}
use Rattle.std.specs.FinMap.{empty, insert}
use Rattle.cfg_base.specs.TextMap.{Named}

-- each name set in turn, so that the later of two equal names counts
abbrev pub each_set : {V : Type 0} → List (List ℕ × V) → Named V
each_set entries = fold (λ m e. insert m e.0 e.1) empty entries

-- no entry has this name
abbrev pub HasNoName : {V : Type 0} → List ℕ → List (List ℕ × V) → Type 0
HasNoName name entries = AllByRecursion (λ e. name ≢ e.0) entries

-- the value of the last entry that has this name: no entry after it has
pub record IsLastUnder {V : Type 0} (name : List ℕ) (value : V) (entries : List (List ℕ × V)) : Type 0 where
  pub before : List (List ℕ × V)
  pub after : List (List ℕ × V)
  pub split : entries ≡ before ++ (name, value) ∷ after
  pub last : HasNoName name after
