-- Whether an address has a scheme.
use Rattle.std.specs.Prelude.{ℕ, List, [], ◌∷◌, Bool, ◌||◌, false, nat_eq, codes}
use Rattle.std.specs.List.{starts_with}

-- whether there is a `://`
abbrev pub has_scheme : List ℕ → Bool
has_scheme [] = false
has_scheme (b ∷ text) = starts_with nat_eq (b ∷ text) (codes "://") || has_scheme text
