-- Lines of an input.
use Rattle.std.specs.Prelude.{ℕ, ◌<◌, ◌≤◌, ◌≢◌, List, All, length, take}

-- how many bytes a line has at most, with its end
abbrev pub most_bytes : ℕ
most_bytes = 1048576

-- the byte that ends a line
abbrev pub line_feed : ℕ
line_feed = 10

-- no line ends in these bytes
abbrev pub HasNoEnd : List ℕ → Type 0
HasNoEnd bytes = All (λ b. b ≢ line_feed) bytes

-- a line, without its end
pub record IsLine (line : List ℕ) : Type 0 where
  pub one : HasNoEnd line
  pub short : length line < most_bytes

-- no line ends in these bytes, which are fewer than one may have
pub record IsUnended (bytes : List ℕ) : Type 0 where
  pub short : length bytes < most_bytes
  pub endless : HasNoEnd bytes

-- no line ends in so many bytes as one may have
pub record IsTooLong (bytes : List ℕ) : Type 0 where
  pub long : most_bytes ≤ length bytes
  pub endless : HasNoEnd (take most_bytes bytes)
