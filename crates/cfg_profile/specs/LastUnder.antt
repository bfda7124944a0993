-- The value that stands last under a key.
use Rattle.std.specs.Prelude.{◌≡◌, ℕ, List, ◌∷◌, ◌++◌, true, false}
use Rattle.std.specs.List.{All}
use Rattle.std.specs.Str.{str_eq_ignore_ascii_case}

-- the pair has another key, ASCII case apart
abbrev pub IsOther : List ℕ → List ℕ × List ℕ → Type 0
IsOther key p = str_eq_ignore_ascii_case p.0 key ≡ false

-- The value stands under the key, ASCII case apart, and behind it there is none of the key.
pub record IsLastUnder (key : List ℕ) (pairs : List (List ℕ × List ℕ)) (value : List ℕ) : Type 0 where
  pub before : List (List ℕ × List ℕ)
  pub name : List ℕ
  pub behind : List (List ℕ × List ℕ)
  pub stands : pairs ≡ before ++ (name, value) ∷ behind
  pub same : str_eq_ignore_ascii_case name key ≡ true
  pub others : All (IsOther key) behind
