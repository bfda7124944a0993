-- What is told of callers that shared what a chain keeps.
use Rattle.std.specs.Prelude.{◌≡◌, ℕ, List, [], ◌++◌, length, Bool, false, map, Result, Ok, Err, if◌then◌else◌}
use Rattle.std.specs.List.{AllByRecursion}
use Rattle.cfg_base.specs.Moment.{Moment}
use Rattle.cfg_types.specs.Classes.{is_memory}
use Rattle.cfg_world.specs.declared.script.DeviceLists.{DeviceLists}
use Rattle.cfg_world.specs.Held.{Held}
use Rattle.cfg_world.specs.Script.{Script, start}
use Rattle.cfg_world.specs.Tallies.{no_faults}
use Rattle.cfg_sharing.specs.declared.shared.Called.{Called}
use Rattle.cfg_sharing.specs.declared.shared.Shared.{Shared}
use Rattle.cfg_sharing.specs.declared.shared.ShareFault.{ShareFault}
use Rattle.cfg_sharing.specs.declared.shared.ShareFault.TheVariants as fault
use Rattle.cfg_sharing.specs.Readings.{AreSorted}
use Rattle.cfg_sharing.specs.Strays.{IsStrayCount}
use Rattle.cfg_sharing.specs.Histories.{entries_in, receipts_in, handed_in, recorded_in}
use Rattle.cfg_program.specs.declared.status.Status.{Status}
use Rattle.cfg_program.specs.declared.status.Status.TheVariants as status
use Rattle.cfg_program.specs.Shares.{Caller, caller_lines, last_is_given, shown_records, shown_difference}

-- a new world over devices of these lists, of which nothing was asked
abbrev pub new_world : DeviceLists → Held Script
new_world lists = record { devices = record { lists = lists; place = start; faults = no_faults }; journal = [] }

-- what a caller's call was
abbrev pub caller_of : Called Script → Caller
caller_of called = record { found = called.answered.found; journal = called.world.journal; out = called.answered.outcome }

abbrev pub callers_of : List (Called Script) → List Caller
callers_of calls = map caller_of calls

-- No call answers that memory ran out. These are the callers' lines, and this is what the last one was given.
pub record TellsCallers (callers : List Caller) (is_given : Bool) (lines : List ℕ) : Type 0 where
  pub answered : AllByRecursion (λ c. is_memory c.out ≡ false) callers
  pub given : is_given ≡ last_is_given callers
  pub shows : lines ≡ caller_lines callers

-- They are told with how many readings are recorded, and the status is by the last one.
pub record TellsAgreement (shared : Shared Script) (ended : Status) (lines : List ℕ) : Type 0 where
  pub told : List ℕ
  pub callers : TellsCallers (callers_of shared.calls) (last_is_given (callers_of shared.calls)) told
  pub ends : ended ≡ (if last_is_given (callers_of shared.calls) then status.Done else status.Refused)
  pub recorded : List Moment
  pub sorted : AreSorted recorded (recorded_in shared.kept)
  pub shows : lines ≡ told ++ shown_records (length recorded)

-- They are told with the readings in the journals and in the records, and with how many strays there are.
pub record TellsDiffering (shared : Shared Script) (ended : Status) (lines : List ℕ) : Type 0 where
  pub told : List ℕ
  pub callers : TellsCallers (callers_of shared.calls) (last_is_given (callers_of shared.calls)) told
  pub ends : ended ≡ status.HistoryDiffers
  pub handed : List Moment
  pub recorded : List Moment
  pub strays : ℕ
  pub sorted_handed : AreSorted handed (handed_in shared.calls)
  pub sorted_recorded : AreSorted recorded (recorded_in shared.kept)
  pub counted : IsStrayCount (entries_in shared.calls) (receipts_in shared.calls) strays
  pub shows : lines ≡ told ++ shown_difference handed recorded strays

-- what is told of what is handed back
abbrev pub TellsShared : Result (Shared Script) (ShareFault Script) → Status → List ℕ → Type 0
TellsShared (Ok shared) ended lines = TellsAgreement shared ended lines
TellsShared (Err (fault.HistoryDiffers shared)) ended lines = TellsDiffering shared ended lines
TellsShared (Err fault.OutOfMemory) ended lines = ⊥
