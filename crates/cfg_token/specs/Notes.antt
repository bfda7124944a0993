-- What a call leaves that follows an inquiry and keeps the receipts of its answers.
use Rattle.std.specs.Prelude.{◌≡◌, List, [], ◌∷◌, ◌++◌, Result, Ok, Err}
use Rattle.cfg_world.specs.declared.asking.Asking.{Ghosts}
use Rattle.cfg_world.specs.declared.asking.Stop.{Stop}
use Rattle.cfg_world.specs.declared.ask.Question.TheVariants.{Now}
use Rattle.cfg_world.specs.Fits.{Pair, EachFits}
use Rattle.cfg_world.specs.Faults.{Counted}
use Rattle.cfg_world.specs.Asked.{Same, StandsOn}
use Rattle.cfg_world.specs.Inquiry.{Inquiry, Reads}
use Rattle.cfg_world.specs.Follows.{Ends, Halts}
use Rattle.cfg_world.specs.Leaves.{clock, moment_of}

-- The journal grew by a part over which the inquiry came to this outcome, and the receipts grew by
-- the same part.
pub record NotedEnds {A R : Type 0} (a : Ghosts A) (inquiry : Inquiry R) (old : A) (held : List Pair) (new : A) (holds : List Pair) (out : R) : Type 0 where
  pub part : List Pair
  pub grows : a.journal new ≡ a.journal old ++ part
  pub receipts : holds ≡ held ++ part
  pub fits : EachFits part
  pub made : a.made_of new ≡ a.made_of old
  pub same : Same (a.allows old) (a.allows new)
  pub counted : Counted part (a.faults old) (a.faults new)
  pub stands : StandsOn (a.stands old) (a.stands new) part
  pub reads : Reads inquiry part out

-- a call that answers the inquiry's outcome; where it was stopped its receipts are given up
abbrev pub Notes : {A R : Type 0} → Ghosts A → Inquiry R → A → List Pair → A → List Pair → Result R Stop → Type 0
Notes a inquiry old held new holds (Ok out) = NotedEnds a inquiry old held new holds out
Notes a inquiry old held new holds (Err stop) = Halts a inquiry old new stop

-- A reading of the clock, of which this is the receipt.
pub record ReadsClock {A : Type 0} (a : Ghosts A) (old new : A) (receipt : Pair) : Type 0 where
  pub ends : Ends a clock old new (moment_of receipt.1)
  pub asked : receipt.0 ≡ Now
  pub part_is : ends.part ≡ receipt ∷ []

abbrev pub HandsReading : {A : Type 0} → Ghosts A → A → A → Result Pair Stop → Type 0
HandsReading a old new (Ok receipt) = ReadsClock a old new receipt
HandsReading a old new (Err stop) = Halts a clock old new stop
