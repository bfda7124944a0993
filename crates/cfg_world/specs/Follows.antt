-- What a call that follows an inquiry leaves of the journal.
use Rattle.std.specs.Prelude.{◌≡◌, List, ◌++◌, Result, Ok, Err, IfSome, IsSome}
use Rattle.cfg_world.specs.declared.asking.Asking.{Ghosts}
use Rattle.cfg_world.specs.declared.asking.Stop.{Stop}
use Rattle.cfg_world.specs.declared.asking.Stop.TheVariants.{OutOfMemory, Open}
use Rattle.cfg_world.specs.declared.asking.Halt.{Halt}
use Rattle.cfg_world.specs.declared.asking.Halt.TheVariants.{Stopped, Refused}
use Rattle.cfg_world.specs.Fits.{Pair, EachFits}
use Rattle.cfg_world.specs.Faults.{Counted}
use Rattle.cfg_world.specs.Asked.{Same, StandsOn}
use Rattle.cfg_world.specs.Inquiry.{Inquiry, Reads, AsksNext, Begun}

-- The journal grew by a part over which the inquiry came to this outcome.
pub record Ends {A R : Type 0} (a : Ghosts A) (inquiry : Inquiry R) (old new : A) (out : R) : Type 0 where
  pub part : List Pair
  pub grows : a.journal new ≡ a.journal old ++ part
  pub fits : EachFits part
  pub made : a.made_of new ≡ a.made_of old
  pub same : Same (a.allows old) (a.allows new)
  pub counted : Counted part (a.faults old) (a.faults new)
  pub stands : StandsOn (a.stands old) (a.stands new) part
  pub reads : Reads inquiry part out

-- It grew by a part after which the inquiry asks the question that is left open.
pub record Waits {A R : Type 0} (a : Ghosts A) (inquiry : Inquiry R) (old new : A) : Type 0 where
  pub part : List Pair
  pub grows : a.journal new ≡ a.journal old ++ part
  pub fits : EachFits part
  pub made : a.made_of new ≡ a.made_of old
  pub same : Same (a.allows old) (a.allows new)
  pub counted : Counted part (a.faults old) (a.faults new)
  pub stands : StandsOn (a.stands old) (a.stands new) part
  pub asks : IfSome (a.open_question new) (AsksNext inquiry part)
  pub is_open : IsSome (a.open_question new)

-- It grew by the beginning of a part, and memory ran out.
pub record Breaks {A R : Type 0} (a : Ghosts A) (inquiry : Inquiry R) (old new : A) : Type 0 where
  pub part : List Pair
  pub grows : a.journal new ≡ a.journal old ++ part
  pub fits : EachFits part
  pub made : a.made_of new ≡ a.made_of old
  pub same : Same (a.allows old) (a.allows new)
  pub counted : Counted part (a.faults old) (a.faults new)
  pub begun : Begun inquiry part

-- how a call stops: at an open question, or out of memory
abbrev pub Halts : {A R : Type 0} → Ghosts A → Inquiry R → A → A → Stop → Type 0
Halts a inquiry old new Open = Waits a inquiry old new
Halts a inquiry old new OutOfMemory = Breaks a inquiry old new

-- a call that answers the inquiry's outcome
abbrev pub Follows : {A R : Type 0} → Ghosts A → Inquiry R → A → A → Result R Stop → Type 0
Follows a inquiry old new (Ok out) = Ends a inquiry old new out
Follows a inquiry old new (Err stop) = Halts a inquiry old new stop

-- a call whose errors are the inquiry's refusals
abbrev pub Settles : {A T E : Type 0} → Ghosts A → Inquiry (Result T E) → A → A → Result T (Halt E) → Type 0
Settles a inquiry old new (Ok x) = Ends a inquiry old new (Ok x)
Settles a inquiry old new (Err (Refused e)) = Ends a inquiry old new (Err e)
Settles a inquiry old new (Err (Stopped stop)) = Halts a inquiry old new stop
