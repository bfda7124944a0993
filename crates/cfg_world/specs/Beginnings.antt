-- Beginnings of journals.
use Rattle.std.specs.Prelude.{◌≡◌, List, ◌++◌, ◌⊎◌}
use Rattle.cfg_world.specs.Fits.{Pair}
use Rattle.cfg_world.specs.Inquiry.{Inquiry, Reads, Begun}

-- One list is a prefix of the other.
abbrev pub IsPrefix : List Pair → List Pair → Type 0
IsPrefix one other = (rest : List Pair) × (other ≡ one ++ rest)

-- The journal is that of the first inquiry so far; or it is a whole one of the first, and behind it
-- that of the second so far.
abbrev pub BegunInTurn : {A B : Type 0} → Inquiry A → (A → Inquiry B) → List Pair → Type 0
BegunInTurn {A} p f journal = Begun p journal
    ⊎ ((part : List Pair) × (rest : List Pair) × (x : A) × (journal ≡ part ++ rest) × Reads p part x × Begun (f x) rest)
