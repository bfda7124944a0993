-- What the calls of a script's callers answer, on what they share.
use Rattle.std.specs.Prelude.{◌≡◌, ◌⊎◌, ℕ, List, [], ◌∷◌, ◌++◌, length, Bool, true, false, Option, Some, map, option_map, is_ok, is_some, IsSome, All, Contains, codes, if◌then◌else◌}
use Rattle.std.specs.List.{flat_map, AllZip}
use Rattle.std.specs.Fmt.{decimal}
use Rattle.cfg_base.specs.Text.{characters}
use Rattle.cfg_base.specs.Moment.{Moment}
use Rattle.cfg_world.specs.declared.script.DeviceLists.{DeviceLists}
use Rattle.cfg_world.specs.Fits.{Pair}
use Rattle.cfg_world.specs.Script.{Given, start}
use Rattle.cfg_profile.specs.Configuration.{Configuration}
use Rattle.cfg_token.specs.declared.token_key.TokenKey.{TokenKey}
use Rattle.cfg_kept.specs.declared.found.Found.{Found}
use Rattle.cfg_kept.specs.FoundValues.{bare}
use Rattle.cfg_providers.specs.CustomSources.{Answer, NamedAnswer}
use Rattle.cfg_chain.specs.Settings.{ChainSetting, with_sources}
use Rattle.cfg_chain.specs.SharedCalls.{IsFoundCall}
use Rattle.cfg_chain.specs.profile.Plans.{key_of}
use Rattle.cfg_sharing.specs.Readings.{handed_after, AreSorted}
use Rattle.cfg_sharing.specs.Receipts.{receipts_of}
use Rattle.cfg_sharing.specs.Strays.{IsStrayCount}
use Rattle.cfg_script.specs.Script.{PlainShare}
use Rattle.cfg_program.specs.declared.status.Status.{Status}
use Rattle.cfg_program.specs.declared.status.Status.TheVariants as status
use Rattle.cfg_program.specs.Lines.{shown, shown_expiry}
use Rattle.cfg_program.specs.Calls.{in_region, source_of, configured_by}

-- what such a script configures
abbrev pub share_configuration : PlainShare → Configuration
share_configuration p = in_region (configured_by p.variables (source_of p.profiles) p.selected p.sleep p.service) (option_map characters p.region)

-- A caller's call: the values that it found, with their receipts, its questions with their answers, and what it came to.
pub record Caller : Type 0 where
  pub found : List Found
  pub journal : List Pair
  pub out : Answer

-- A call of a default chain of this setting, whose answers are those that the lists of its caller's devices give.
pub record IsCaller (over : ChainSetting) (lists : DeviceLists) (c : Caller) : Type 0 where
  pub call : IsFoundCall over (map bare c.found) c.journal c.out
  pub agrees : Given lists start c.journal

-- a call of each caller, in order, and no other
abbrev pub AreCallers : ChainSetting → List DeviceLists → List Caller → Type 0
AreCallers over lists callers = AllZip (IsCaller over) lists callers

-- all entries of the journals, all receipts of found values, and the readings directly after a granted reading of a file
abbrev pub entries_of : List Caller → List Pair
entries_of callers = flat_map (λ c. c.journal) callers

abbrev pub receipts_of_all : List Caller → List Pair
receipts_of_all callers = flat_map (λ c. flat_map receipts_of c.found) callers

abbrev pub handed_of : List Caller → List Moment
handed_of callers = flat_map (λ c. handed_after c.journal) callers

-- the lines of all callers, in order
abbrev pub caller_lines : List Caller → List ℕ
caller_lines callers = flat_map (λ c. shown c.out c.journal) callers

-- whether the last caller was given credentials
abbrev pub last_is_given : List Caller → Bool
last_is_given [] = false
last_is_given (c ∷ []) = is_ok c.out
last_is_given (c ∷ next ∷ later) = last_is_given (next ∷ later)

-- a moment behind another, and moments joined by commas, or `-`
abbrev pub later_moment : Moment → List ℕ
later_moment m = codes "," ++ shown_expiry (Some m)

abbrev pub shown_moments : List Moment → List ℕ
shown_moments [] = codes "-"
shown_moments (m ∷ later) = shown_expiry (Some m) ++ flat_map later_moment later

-- the last line where the histories agree, by how many readings are recorded
abbrev pub shown_records : ℕ → List ℕ
shown_records n = codes "records " ++ (decimal n ++ codes "\n")

-- the last line where they differ: the readings in the journals and in the records, sorted, and how many strays there are
abbrev pub shown_difference : List Moment → List Moment → ℕ → List ℕ
shown_difference handed recorded strays =
    codes "differs " ++ (shown_moments handed ++ (codes " " ++ (shown_moments recorded ++ (codes " " ++ (decimal strays ++ codes "\n")))))

-- Each receipt of a found value is of an entry of a journal. The line tells how many readings come directly after a
-- granted reading of a file, 0 without a token.
pub record TellsRecords (key : Option TokenKey) (callers : List Caller) (line : List ℕ) : Type 0 where
  pub receipts : All (Contains (entries_of callers)) (receipts_of_all callers)
  pub shows : line ≡ shown_records (if is_some key then length (handed_of callers) else 0)

-- There is a token, and the line's lists differ, of which the first is of these readings, or its number, which is
-- that of the strays, is not 0.
pub record TellsDifference (key : Option TokenKey) (callers : List Caller) (line : List ℕ) : Type 0 where
  pub handed : List Moment
  pub recorded : List Moment
  pub strays : ℕ
  pub sorted : AreSorted handed (handed_of callers)
  pub counted : IsStrayCount (entries_of callers) (receipts_of_all callers) strays
  pub differ : (IsSome key × (¬ (handed ≡ recorded))) ⊎ (¬ (strays ≡ 0))
  pub shows : line ≡ shown_difference handed recorded strays

-- the last line, by the status that it calls for
abbrev pub TellsLast : Option TokenKey → List Caller → Status → List ℕ → Type 0
TellsLast key callers status.Done line = (last_is_given callers ≡ true) × TellsRecords key callers line
TellsLast key callers status.Refused line = (last_is_given callers ≡ false) × TellsRecords key callers line
TellsLast key callers status.HistoryDiffers line = TellsDifference key callers line
TellsLast key callers _ line = ⊥

-- A call of each caller of a default chain of this setting, each over its own lists. They have these lines, and call for
-- this status.
pub record SharesOver (over : ChainSetting) (all : List DeviceLists) (ended : Status) (lines : List ℕ) : Type 0 where
  pub callers : List Caller
  pub made : AreCallers over all callers
  pub last : List ℕ
  pub tells : TellsLast (key_of over.configuration) callers ended last
  pub shows : lines ≡ caller_lines callers ++ last

-- the calls of a script's callers, with these sources of the caller's own
abbrev pub ShareAnswers : List NamedAnswer → PlainShare → Status → List ℕ → Type 0
ShareAnswers sources p ended lines = SharesOver (with_sources (share_configuration p) sources) p.callers ended lines
