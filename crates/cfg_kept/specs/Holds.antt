-- What a call that follows a tree leaves of the journal, of the found values and of what is kept.
use Rattle.std.specs.Prelude.{◌≡◌, List, [], ◌∷◌, ◌++◌, Result, Ok, Err, Option, IfSome, IsSome}
use Rattle.cfg_world.specs.declared.asking.Asking.{Ghosts}
use Rattle.cfg_world.specs.declared.asking.Stop.{Stop}
use Rattle.cfg_world.specs.declared.asking.Stop.TheVariants.{OutOfMemory, Open}
use Rattle.cfg_world.specs.Fits.{Pair, EachFits}
use Rattle.cfg_world.specs.Faults.{Counted}
use Rattle.cfg_world.specs.Asked.{Same, StandsOn}
use Rattle.cfg_world.specs.Inquiry.{Inquiry}
use Rattle.cfg_kept.specs.Kinds.{Spot, Value, States}
use Rattle.cfg_kept.specs.KeptInquiry.{KeptInquiry, Gives, Finds, Leaves, Runs, Asks, Begins, StandsIn, leave, lift, onwards}

-- what a keeper holds: the values that were found, and the kept states, where they are told
pub record Holdings : Type 0 where
  pub found : List Value
  pub kept : Option States

abbrev pub held : List Value → Option States → Holdings
held found kept = record { found = found; kept = kept }

-- The journal grew by a part, and the found values by others, over which the tree came to this outcome.
pub record HoldsEnds {A R : Type 0} (a : Ghosts A) (tree : KeptInquiry R) (old : A) (before : Holdings) (new : A) (later : Holdings) (out : R) : Type 0 where
  pub part : List Pair
  pub grows : a.journal new ≡ a.journal old ++ part
  pub fits : EachFits part
  pub made : a.made_of new ≡ a.made_of old
  pub same : Same (a.allows old) (a.allows new)
  pub counted : Counted part (a.faults old) (a.faults new)
  pub stands : StandsOn (a.stands old) (a.stands new) part
  pub found : List Value
  pub finds : later.found ≡ before.found ++ found
  pub runs : Runs tree before.kept found part out later.kept

-- They grew by those after which the tree asks the question that is left open.
pub record HoldsWaits {A R : Type 0} (a : Ghosts A) (tree : KeptInquiry R) (old : A) (before : Holdings) (new : A) (later : Holdings) : Type 0 where
  pub part : List Pair
  pub grows : a.journal new ≡ a.journal old ++ part
  pub fits : EachFits part
  pub made : a.made_of new ≡ a.made_of old
  pub same : Same (a.allows old) (a.allows new)
  pub counted : Counted part (a.faults old) (a.faults new)
  pub stands : StandsOn (a.stands old) (a.stands new) part
  pub found : List Value
  pub finds : later.found ≡ before.found ++ found
  pub asks : IfSome (a.open_question new) (λ q. Asks tree before.kept found part q later.kept)
  pub is_open : IsSome (a.open_question new)

-- They grew by a beginning, and memory ran out. What is kept is as the last finished holding left it.
pub record HoldsBreaks {A R : Type 0} (a : Ghosts A) (tree : KeptInquiry R) (old : A) (before : Holdings) (new : A) (later : Holdings) : Type 0 where
  pub part : List Pair
  pub grows : a.journal new ≡ a.journal old ++ part
  pub fits : EachFits part
  pub made : a.made_of new ≡ a.made_of old
  pub same : Same (a.allows old) (a.allows new)
  pub counted : Counted part (a.faults old) (a.faults new)
  pub found : List Value
  pub finds : later.found ≡ before.found ++ found
  pub begins : Begins tree before.kept found part later.kept

-- how a call stops: at an open question, or out of memory
abbrev pub HoldsHalts : {A R : Type 0} → Ghosts A → KeptInquiry R → A → Holdings → A → Holdings → Stop → Type 0
HoldsHalts a tree old before new later Open = HoldsWaits a tree old before new later
HoldsHalts a tree old before new later OutOfMemory = HoldsBreaks a tree old before new later

-- a call that answers the tree's outcome
abbrev pub HoldsFollows : {A R : Type 0} → Ghosts A → KeptInquiry R → A → Holdings → A → Holdings → Result R Stop → Type 0
HoldsFollows a tree old before new later (Ok out) = HoldsEnds a tree old before new later out
HoldsFollows a tree old before new later (Err stop) = HoldsHalts a tree old before new later stop

-- A holding that asks nothing: it found this value, and left what is kept as it was.
pub record HoldsFound (old new : Holdings) (value : Value) : Type 0 where
  pub finds : new.found ≡ old.found ++ value ∷ []
  pub kept : new.kept ≡ old.kept
  pub stands : StandsIn old.kept value

-- what a keeper holds after a value was left
abbrev pub leaves_in : Holdings → Value → Holdings
leaves_in h value = record { found = h.found; kept = leave h.kept value }

-- what came of a holding is left, and the rest is its answer
abbrev pub left_by : {R T : Type 0} → (T → Value) → R × T → KeptInquiry R
left_by at made = Leaves (at made.1) (Gives made.0)

-- one holding: it finds what is kept at the spot, asks, and leaves what came of it
unfoldable pub holding : {R T : Type 0} → Spot → (T → Value) → (Value → Inquiry (R × T)) → KeptInquiry R
holding spot at asks = Finds spot (λ found. onwards (lift (asks found)) (left_by at))

-- One holding of one value, whatever else is kept: this value was found, and this one was left.
abbrev pub HoldsOne : {A R : Type 0} → Ghosts A → KeptInquiry R → A → A → List Value → List Value → Value → Value → Result R Stop → Type 0
HoldsOne a tree old new before later was is result = (kept : Option States) → StandsIn kept was → HoldsFollows a tree old (held before kept) new (held later (leave kept is)) result
