-- White space of Unicode at the ends of a text.
use Rattle.std.specs.Prelude.{ℕ, List, [], ◌∷◌, Bool, true, false}
use Rattle.std.specs.Str.{skip_leading_whitespace, drop_trailing_whitespace}

-- a text's characters without the white space at either end
abbrev pub trimmed : List ℕ → List ℕ
trimmed text = drop_trailing_whitespace (skip_leading_whitespace text)

-- no character at all
abbrev pub is_empty : List ℕ → Bool
is_empty [] = true
is_empty (c ∷ text) = false

-- nothing but white space
abbrev pub is_blank : List ℕ → Bool
is_blank text = is_empty (trimmed text)
