-- What a question that was put adds to the journal.
use Rattle.std.specs.Prelude.{List, [], ◌∷◌, Result, Ok, Err}
use Rattle.cfg_world.specs.Fits.{Pair}

-- its entry, or nothing where there was no answer
abbrev pub put_entry : {E : Type 0} → Result Pair E → List Pair
put_entry (Ok e) = e ∷ []
put_entry (Err stop) = []

-- no entries: a world is made of none
abbrev pub nothing : List Pair
nothing = []
