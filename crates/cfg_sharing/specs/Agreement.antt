-- Whether the journals of callers, what they found and what is kept agree.
use Rattle.std.specs.Prelude.{◌≡◌, ◌⊎◌, List, Contains, Option, Some, None, IsSome, All, Result, Ok, Err}
use Rattle.cfg_base.specs.Moment.{Moment}
use Rattle.cfg_world.specs.Fits.{Pair}
use Rattle.cfg_kept.specs.KeptStates.{kept_key}
use Rattle.cfg_sharing.specs.declared.shared.Shared.{Shared}
use Rattle.cfg_sharing.specs.declared.shared.ShareFault.{ShareFault}
use Rattle.cfg_sharing.specs.declared.shared.ShareFault.TheVariants as fault
use Rattle.cfg_sharing.specs.Readings.{AreSorted}
use Rattle.cfg_sharing.specs.Histories.{entries_in, receipts_in, handed_in, recorded_in}

-- The readings in the journals and in the records are the same, sorted.
pub record AreRecorded {D : Type 0} (shared : Shared D) : Type 0 where
  pub sorted : List Moment
  pub handed : AreSorted sorted (handed_in shared.calls)
  pub recorded : AreSorted sorted (recorded_in shared.kept)

-- Where there is a token, the readings in the journals and in the records are the same.
abbrev pub SameHistory : {D : Type 0} → Shared D → Type 0
SameHistory shared = IsSome (kept_key shared.kept) → AreRecorded shared

-- There is a token, and sorted they differ.
pub record Differs {D : Type 0} (shared : Shared D) : Type 0 where
  pub key : IsSome (kept_key shared.kept)
  pub sorted_handed : List Moment
  pub sorted_recorded : List Moment
  pub handed : AreSorted sorted_handed (handed_in shared.calls)
  pub recorded : AreSorted sorted_recorded (recorded_in shared.kept)
  pub differ : ¬ (sorted_handed ≡ sorted_recorded)

-- A receipt that a found value carries is of an entry that stands in no journal.
pub record HasStray {D : Type 0} (shared : Shared D) : Type 0 where
  pub receipt : Pair
  pub carried : Contains (receipts_in shared.calls) receipt
  pub stray : ¬ Contains (entries_in shared.calls) receipt

-- They agree: in the readings, and in each receipt of a found value.
pub record Agrees {D : Type 0} (shared : Shared D) : Type 0 where
  pub history : SameHistory shared
  pub receipts : All (Contains (entries_in shared.calls)) (receipts_in shared.calls)

-- the cause of a fault: they differ, or there is a stray receipt
abbrev pub IsFault : {D : Type 0} → ShareFault D → Type 0
IsFault (fault.HistoryDiffers shared) = Differs shared ⊎ HasStray shared
IsFault fault.OutOfMemory = Unit {0}

-- what is handed back, unless memory ran out
abbrev pub handed_back : {D : Type 0} → Result (Shared D) (ShareFault D) → Option (Shared D)
handed_back (Ok shared) = Some shared
handed_back (Err (fault.HistoryDiffers shared)) = Some shared
handed_back (Err fault.OutOfMemory) = None
