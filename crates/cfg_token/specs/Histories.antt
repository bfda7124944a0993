-- What the state of a token keeps, and that it is a history of loads.
use Rattle.std.specs.Prelude.{◌≡◌, ◌⊎◌, List, [], ◌∷◌, ◌++◌, Option, Some, None, Result, Ok, Err, IsSome, true}
use Rattle.std.specs.List.{fold}
use Rattle.cfg_base.specs.Moment.{Moment}
use Rattle.cfg_world.specs.Fits.{Pair}
use Rattle.cfg_world.specs.Inquiry.{Reads}
use Rattle.cfg_token.specs.declared.token_key.TokenKey.{TokenKey}
use Rattle.cfg_types.specs.Environment.{Variables}
use Rattle.cfg_types.specs.declared.settings.CallSettings.{CallSettings}
use Rattle.cfg_token.specs.declared.loading.Loaded.{Loaded}
use Rattle.cfg_token.specs.declared.sections.Sectioned.{Sectioned}
use Rattle.cfg_token.specs.declared.sections.Sectioned.TheVariants.{Hit, Load}
use Rattle.cfg_token.specs.Rules.{Rules}
use Rattle.cfg_token.specs.Sections.{gives, section, ok_of, noted_or}

-- a finished load: what it was told, what it gave, and the reading at which it noted an attempt
pub record FinishedLoad (T E : Type 0) : Type 0 where
  pub receipts : List Pair
  pub outcome : Result T E
  pub noted : Option Moment

-- a load that gave a token, and the last attempt before it
pub record TokenLoad (T E : Type 0) : Type 0 where
  pub loaded_by : FinishedLoad T E
  pub before : Option Moment

-- the loads of one token: what was kept first, and the loads since then
pub record History (T E : Type 0) : Type 0 where
  pub load : Option (TokenLoad T E)
  pub last : Option Moment
  pub records : List (FinishedLoad T E)

-- the token that a load gave
abbrev pub token_of : {T E : Type 0} → TokenLoad T E → Option T
token_of load = ok_of load.loaded_by.outcome

abbrev pub token_in : {T E : Type 0} → Option (TokenLoad T E) → Option T
token_in None = None
token_in (Some load) = token_of load

-- what is kept after these records, and the last attempt after them
abbrev pub kept_by : {T E : Type 0} → Option T → List (FinishedLoad T E) → Option T
kept_by kept records = fold (λ k r. ok_of r.outcome) kept records

abbrev pub noted_by : {T E : Type 0} → Option Moment → List (FinishedLoad T E) → Option Moment
noted_by last records = fold (λ l r. noted_or r.noted l) last records

-- what is kept now, and the last attempt
abbrev pub kept_in : {T E : Type 0} → History T E → Option T
kept_in h = kept_by (token_in h.load) h.records

abbrev pub last_in : {T E : Type 0} → History T E → Option Moment
last_in h = noted_by h.last h.records

-- the load that gave the kept token
abbrev pub load_made : {T E : Type 0} → Option Moment → FinishedLoad T E → Result T E → Option (TokenLoad T E)
load_made last r (Ok token) = Some (record { loaded_by = r; before = last })
load_made last r (Err e) = None

abbrev pub load_by : {T E : Type 0} → Option (TokenLoad T E) → Option Moment → List (FinishedLoad T E) → Option (TokenLoad T E)
load_by load last [] = load
load_by load last (r ∷ records) = load_by (load_made last r r.outcome) (noted_or r.noted last) records

abbrev pub load_in : {T E : Type 0} → History T E → Option (TokenLoad T E)
load_in h = load_by h.load h.last h.records

-- the same state, with its present as its origin
abbrev pub trimmed : {T E : Type 0} → History T E → History T E
trimmed h = record { load = load_in h; last = last_in h; records = [] }

-- The record is a whole load of some call for a key of this kind, with this kept and this last attempt.
pub record IsLoad {T E : Type 0} (t : Rules T E) (kept : Option T) (last : Option Moment) (told : FinishedLoad T E) : Type 0 where
  pub key : TokenKey
  pub env : Variables
  pub settings : CallSettings
  pub of_kind : t.is_kind key ≡ true
  pub reads : Reads (section t key env settings kept last) told.receipts (Load (gives told.outcome told.noted))

-- Each record is a load, from what the records before it leave.
abbrev pub Machine : {T E : Type 0} → Rules T E → Option T → Option Moment → List (FinishedLoad T E) → Type 0
Machine t kept last [] = Unit {0}
Machine t kept last (r ∷ records) = IsLoad t kept last r × Machine t (ok_of r.outcome) (noted_or r.noted last) records

-- The load gave a token, from nothing kept.
pub record IsTokenLoad {T E : Type 0} (t : Rules T E) (load : TokenLoad T E) : Type 0 where
  pub loaded : IsLoad t None load.before load.loaded_by
  pub token : IsSome (token_of load)

-- The history is one of loads, from its origin on.
abbrev pub IsHistory : {T E : Type 0} → Rules T E → History T E → Type 0
IsHistory t h = Machine t (token_in h.load) h.last h.records

-- What is stored beside a history is what it leaves: the kept token, the last attempt, and the last one
-- before the last record.
pub record IsStored {T E : Type 0} (t : Rules T E) (h : History T E) (kept : Option T) (attempt before : Option Moment) : Type 0 where
  pub history : IsHistory t h
  pub kept_is : kept ≡ kept_in h
  pub attempt_is : attempt ≡ last_in h
  pub before_is : (records : List (FinishedLoad T E)) (r : FinishedLoad T E) → h.records ≡ records ++ r ∷ [] → before ≡ noted_by h.last records

-- a finished load, by what it was told and what it gave
abbrev pub finished_by : {T E : Type 0} → List Pair → Loaded T E → FinishedLoad T E
finished_by receipts l = record { receipts = receipts; outcome = l.outcome; noted = l.noted }

-- a section's record, where it finished a load
abbrev pub record_of : {T E : Type 0} → List Pair → Sectioned T E → List (FinishedLoad T E)
record_of receipts (Hit token) = []
record_of receipts (Load l) = finished_by receipts l ∷ []

-- the history with the record of a section that has this part
abbrev pub with_section : {T E : Type 0} → History T E → List Pair → Sectioned T E → History T E
with_section h receipts made = record h { records = h.records ++ record_of receipts made }

-- The history is as before, or has one record more.
abbrev pub AddsAtMostOne : {T E : Type 0} → History T E → History T E → Type 0
AddsAtMostOne {T} {E} before later = (later ≡ before) ⊎ ((r : FinishedLoad T E) × (later ≡ record before { records = before.records ++ r ∷ [] }))
