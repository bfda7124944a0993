-- Journals whose answers agree.
use Rattle.std.specs.Prelude.{◌≡◌, List, [], ◌∷◌}
use Rattle.cfg_world.specs.Fits.{Pair}

-- The answers agree as far as both lists ask the same.
abbrev pub AnswerAlike : List Pair → List Pair → Type 0
AnswerAlike [] other = Unit {0}
AnswerAlike (e ∷ one) [] = Unit {0}
AnswerAlike (e ∷ one) (f ∷ other) = e.0 ≡ f.0 → (e.1 ≡ f.1) × AnswerAlike one other
