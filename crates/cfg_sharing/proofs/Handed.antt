-- The readings of a journal, an entry at a time.
use Rattle.std.proofs.Common.{◌≡◌, ◌+◌, List, [], ◌∷◌, ◌++◌, Bool, false, refl, sym, ap}
use Rattle.std.specs.Prelude.{if◌then◌else◌}
use Rattle.cfg_base.specs.Moment.{Moment}
use Rattle.cfg_world.specs.Fits.{Pair}
use Rattle.cfg_sharing.specs.Readings.{is_contents, moments_in, handed_after}

-- those of the entries to come, by whether the one before them is a granted reading of a file
abbrev pub handed_from : Bool → List Pair → List Moment
handed_from was_read [] = []
handed_from was_read (e ∷ later) = (if was_read then moments_in e.1 else []) ++ handed_from (is_contents e.1) later

behind : (e : Pair) (later : List Pair) → handed_after (e ∷ later) ≡ handed_from (is_contents e.1) later
behind e [] = refl
behind e (next ∷ later) = ap (λ ms. (if is_contents e.1 then moments_in next.1 else []) ++ ms) (behind next later)

pub all_handed : (journal : List Pair) → handed_from false journal ≡ handed_after journal
all_handed [] = refl
all_handed (e ∷ later) = sym (behind e later)
