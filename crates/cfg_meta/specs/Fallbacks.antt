-- What a chain falls back on.
use Rattle.std.specs.Prelude.{List, ◌∷◌, Option, None}
use Rattle.std.specs.Option.{option_or}
use Rattle.cfg_kept.specs.Kinds.{States}

-- the first member's value that is there, by what is kept of it
abbrev pub first_there : {M V : Type 0} → (M → States → Option V) → List M → List States → Option V
first_there fallback (member ∷ members) (states ∷ others) = option_or (fallback member states) (first_there fallback members others)
first_there fallback _ _ = None
