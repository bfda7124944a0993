-- Questions that are asked again.
use Rattle.std.specs.Prelude.{◌≡◌, List, [], ◌∷◌}
use Rattle.cfg_world.specs.declared.ask.Question.{Question}
use Rattle.cfg_world.specs.Fits.{Pair}

-- The next entry asks the same again.
abbrev pub IsRepeated : Question → List Pair → Type 0
IsRepeated q [] = ⊥
IsRepeated q (e ∷ rest) = e.0 ≡ q
