-- Where a value is of another form than is wanted.
use Rattle.std.specs.Prelude.{ℕ, List, [], ◌∷◌, Option, Some, None, Result, Ok, Err}
use Rattle.cfg_base.specs.Text.{characters}
use Rattle.cfg_script.specs.declared.fault.Fault.{Fault}
use Rattle.cfg_script.specs.declared.fault.Step.{Step}
use Rattle.cfg_script.specs.declared.fault.Step.TheVariants.{Member, Item}
use Rattle.cfg_script.specs.declared.fault.Wanted.{Wanted}

-- a fault of the value itself
abbrev pub here : Wanted → Fault
here w = record { path = []; wanted = w }

-- a fault, seen from one step further out
abbrev pub within : Step → Fault → Fault
within step fault = record { path = step ∷ fault.path; wanted = fault.wanted }

-- a fault of the member of this name
abbrev pub member_fault : List ℕ → Wanted → Fault
member_fault name w = within (Member (characters name)) (here w)

-- what a value says that is one step further in: its fault is seen from here
abbrev pub under : {A : Type 0} → Step → Result A Fault → Result A Fault
under step (Ok a) = Ok a
under step (Err fault) = Err (within step fault)

-- what the member of this name says, seen from its object
abbrev pub under_name : {A : Type 0} → List ℕ → Result A Fault → Result A Fault
under_name name said = under (Member (characters name)) said

-- what the item at this place says, seen from its list
abbrev pub under_place : {A : Type 0} → ℕ → Result A Fault → Result A Fault
under_place place said = under (Item place) said

-- what was read, or else that this is wanted
abbrev pub wanting : {A : Type 0} → Wanted → Option A → Result A Fault
wanting w None = Err (here w)
wanting w (Some a) = Ok a

-- a fault that comes first, or else what is said
abbrev pub unless : {A : Type 0} → Option Fault → Result A Fault → Result A Fault
unless None said = said
unless (Some fault) said = Err fault
