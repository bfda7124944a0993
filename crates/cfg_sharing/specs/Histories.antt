-- What callers' journals, found values and records tell.
use Rattle.std.specs.Prelude.{List, [], map, Option, Some, None}
use Rattle.std.specs.List.{flat_map}
use Rattle.cfg_base.specs.Moment.{Moment}
use Rattle.cfg_world.specs.Fits.{Pair}
use Rattle.cfg_kept.specs.declared.kept.Kept.{Kept}
use Rattle.cfg_kept.specs.declared.keyed.EitherState.{EitherState}
use Rattle.cfg_kept.specs.declared.keyed.EitherState.TheVariants.{Sso, Login}
use Rattle.cfg_kept.specs.KeptStates.{kept_token}
use Rattle.cfg_sharing.specs.declared.shared.Called.{Called}
use Rattle.cfg_sharing.specs.Readings.{handed_after}
use Rattle.cfg_sharing.specs.Receipts.{receipts_of}

-- the receipts of each record of a state
abbrev pub recorded_by : Option EitherState → List (List Pair)
recorded_by (Some (Sso state)) = map (λ r. r.receipts) state.loads.records
recorded_by (Some (Login state)) = map (λ r. r.receipts) state.loads.records
recorded_by None = []

-- the entries of all callers' journals
abbrev pub entries_in : {D : Type 0} → List (Called D) → List Pair
entries_in calls = flat_map (λ c. c.world.journal) calls

-- the receipts that the callers' found values carry
abbrev pub receipts_in : {D : Type 0} → List (Called D) → List Pair
receipts_in calls = flat_map (λ c. flat_map receipts_of c.answered.found) calls

-- the readings directly after a granted reading of a file: in the callers' journals, and in the records of what is kept
abbrev pub handed_in : {D : Type 0} → List (Called D) → List Moment
handed_in calls = flat_map (λ c. handed_after c.world.journal) calls

abbrev pub recorded_in : Kept → List Moment
recorded_in kept = flat_map handed_after (recorded_by (kept_token kept))
