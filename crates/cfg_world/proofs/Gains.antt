-- Stretches by which a journal grew.
use Rattle.std.proofs.Common.{◌≡◌, List, [], sym, ◌∙◌, append-nil}
use Rattle.cfg_world.specs.Fits.{Pair}
use Rattle.cfg_world.specs.Gains.{Gains}

-- a journal that grew by nothing
pub grew_by_nothing : (Holds : List Pair → Type 0) (before later : List Pair) → later ≡ before → Holds [] → Gains before later Holds
grew_by_nothing Holds before later same holds = record { part = []; grows = same ∙ sym (append-nil before); said = holds }
