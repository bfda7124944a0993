-- What stands under a name of a cache, and what calls leave of it.
use Rattle.std.specs.Prelude.{◌≡◌, ◌≢◌, ◌⊎◌, ℕ, List, true, is_some, Option, Some, None, Result, Ok, Err}
use Rattle.cfg_base.specs.Text.{characters}
use Rattle.cfg_types.specs.Keys.{Keys}
use Rattle.cfg_world.specs.declared.devices.Devices.{Ghosts}
use Rattle.cfg_world.specs.Held.{Held as World}
use Rattle.cfg_chain.specs.Settings.{ChainSetting}
use Rattle.cfg_identity.specs.declared.fault.CacheFault.{CacheFault}
use Rattle.cfg_identity.specs.declared.fault.CacheFault.TheVariants as fault
use Rattle.cfg_identity.specs.declared.held.Held.{Held}
use Rattle.cfg_identity.specs.declared.settings.CacheSettings.{CacheSettings}
use Rattle.cfg_identity.specs.Cached.{CachesAny, Breaks}
use Rattle.cfg_identity.specs.Faults.{Tells}
use Rattle.cfg_identity.specs.NameStates.{NameState, nothing_loaded}

-- the setting of the name's chain, and what is kept of it
pub record Entry : Type 0 where
  pub over : ChainSetting
  pub state : NameState

-- nothing is held and kept of a chain
abbrev pub fresh : ChainSetting → Entry
fresh over = record { over = over; state = nothing_loaded }

abbrev pub chain_in : Entry → ChainSetting
chain_in entry = entry.over

abbrev pub held_in : Entry → Option Held
held_in entry = entry.state.held

abbrev pub without_held : Entry → Entry
without_held entry = record { over = entry.over; state = record { held = None; states = entry.state.states } }

-- what stands under each name
abbrev pub Entries : Type 0
Entries = List ℕ → Option Entry

-- every other name has what it had
abbrev pub OthersStay : List ℕ → Entries → Entries → Type 0
OthersStay name old new = (other : List ℕ) → other ≢ name → new other ≡ old other

-- every name has what it had
abbrev pub SameEntries : Entries → Entries → Type 0
SameEntries old new = (name : List ℕ) → new name ≡ old name

-- This stands under a new name, and every other name has what it had.
pub record IsPlaced (entry : Entry) (name : List ℕ) (old new : Entries) : Type 0 where
  pub there : new name ≡ Some entry
  pub others : OthersStay name old new

-- What adding a chain under a name leaves there, by its answer.
abbrev pub IsAdded : ChainSetting → List ℕ → Option Entry → Option Entry → Result (Unit {0}) CacheFault → Type 0
IsAdded over name old new (Ok done) = (old ≡ None) × (new ≡ Some (fresh over))
IsAdded over name old new (Err (fault.Taken text)) = (is_some old ≡ true) × (text ≡ characters name) × (new ≡ old)
IsAdded over name old new (Err fault.OutOfMemory) = new ≡ old
IsAdded over name old new (Err (fault.Unknown text)) = ⊥
IsAdded over name old new (Err (fault.Chain e)) = ⊥

module _ {D : Type 0} (d : Ghosts D) (settings : CacheSettings) where
  -- A call under a name that is there, by its answer. The chain stays.
  pub record ResolvesOn (old new : Entry) (before later : World D) (out : Result Keys CacheFault) : Type 0 where
    pub same_chain : new.over ≡ old.over
    pub call : Tells (CachesAny d settings old.over old.state new.state before later) (Breaks d settings old.over old.state new.state before later) out

  -- A call under a name, by what stands there: a name that is not there is told, and nothing is asked.
  abbrev pub IsResolved : List ℕ → Option Entry → Option Entry → World D → World D → Result Keys CacheFault → Type 0
  IsResolved name None new before later out =
      (new ≡ None) × (later ≡ before) × ((out ≡ Err (fault.Unknown (characters name))) ⊎ (out ≡ Err fault.OutOfMemory))
  IsResolved name (Some old) new before later out = (left : Entry) × (new ≡ Some left) × ResolvesOn old left before later out
