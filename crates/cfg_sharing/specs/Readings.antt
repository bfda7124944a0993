-- The readings of the clock that come directly after a granted reading of a file.
use Rattle.std.specs.Prelude.{List, [], ◌∷◌, ◌++◌, Bool, true, false, if◌then◌else◌}
use Rattle.std.specs.Ordering.{ordering_then, int_cmp, nat_cmp}
use Rattle.std.specs.List.Sorted.{IsSorted, IsPermutation}
use Rattle.std.specs.declared.cmp.Ordering.{Ordering}
use Rattle.cfg_base.specs.Moment.{Moment}
use Rattle.cfg_world.specs.declared.ask.Answer.{Answer}
use Rattle.cfg_world.specs.declared.ask.Answer.TheVariants as answer
use Rattle.cfg_world.specs.Fits.{Pair}

-- the answer of a granted reading of a file
abbrev pub is_contents : Answer → Bool
is_contents (answer.Contents bytes) = true
is_contents _ = false

-- the moment of a reading of the clock; no other answer has one
abbrev pub moments_in : Answer → List Moment
moments_in (answer.Moment m) = m ∷ []
moments_in _ = []

-- the moment of an entry, where the one directly before it is a granted reading of a file
abbrev pub handed_by : Pair → Pair → List Moment
handed_by before e = if is_contents before.1 then moments_in e.1 else []

-- the readings of the clock that come directly after a granted reading of a file
abbrev pub handed_after : List Pair → List Moment
handed_after [] = []
handed_after (e ∷ []) = []
handed_after (e ∷ next ∷ later) = handed_by e next ++ handed_after (next ∷ later)

-- moments are ordered by their seconds, and then by their nanoseconds
abbrev pub moment_cmp : Moment → Moment → Ordering
moment_cmp a b = ordering_then (int_cmp a.seconds b.seconds) (nat_cmp a.nanos b.nanos)

-- These are the same moments, from the first to the last.
pub record AreSorted (sorted moments : List Moment) : Type 0 where
  pub order : IsSorted moment_cmp sorted
  pub same : IsPermutation moments sorted
