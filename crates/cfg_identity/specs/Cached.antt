-- What a call under a name is: held credentials that last, or a call of the name's chain.
use Rattle.std.specs.Prelude.{◌≡◌, ◌⊎◌, List, [], ◌∷◌, Some, None, Ok}
use Rattle.cfg_base.specs.Moment.{Moment}
use Rattle.cfg_world.specs.declared.ask.Question.TheVariants.{Now}
use Rattle.cfg_world.specs.declared.devices.Devices.{Ghosts}
use Rattle.cfg_world.specs.Fits.{Pair}
use Rattle.cfg_world.specs.Grows.{Grows, Stays}
use Rattle.cfg_world.specs.Held.{Held as World}
use Rattle.cfg_world.specs.Leaves.{moment_of}
use Rattle.cfg_kept.specs.Kinds.{Value, States}
use Rattle.cfg_kept.specs.KeptStates.{kept_holdings}
use Rattle.cfg_providers.specs.CustomSources.{Answer}
use Rattle.cfg_chain.specs.BegunCalls.{IsBegunCall}
use Rattle.cfg_chain.specs.Provides.{IsCall, Provides, Interrupted}
use Rattle.cfg_chain.specs.Settings.{ChainSetting}
use Rattle.cfg_identity.specs.declared.held.Held.{Held}
use Rattle.cfg_identity.specs.declared.loaded.Loaded.{Loaded}
use Rattle.cfg_identity.specs.declared.settings.CacheSettings.{CacheSettings}
use Rattle.cfg_identity.specs.Lives.{lasting, IsHeld}
use Rattle.cfg_identity.specs.NameStates.{NameState, state_of}

-- What is held lasts at the reading: it is the answer, nothing more is asked, and all stays as it was.
pub record IsHit (settings : CacheSettings) (now : Moment) (old new : NameState) (found : List Value) (rest : List Pair) (out : Answer) : Type 0 where
  pub held : Held
  pub lasts : lasting settings old.held now ≡ Some held
  pub answers : out ≡ Ok held.credentials
  pub asks : rest ≡ []
  pub finds : found ≡ []
  pub same : new ≡ old

-- Nothing is held that lasts: behind the reading the chain is called, and its answer is held.
pub record IsLoad (settings : CacheSettings) (over : ChainSetting) (now : Moment) (old new : NameState) (found : List Value) (rest : List Pair) (out : Answer) : Type 0 where
  pub due : lasting settings old.held now ≡ None
  pub call : IsCall over old.states new.states found rest out
  pub holds : IsHeld settings now out old.held new.held

-- A call begins with a reading of the clock.
pub record IsCached (settings : CacheSettings) (over : ChainSetting) (old new : NameState) (found : List Value) (part : List Pair) (out : Answer) : Type 0 where
  pub reading : Pair
  pub reads : reading.0 ≡ Now
  pub rest : List Pair
  pub asks : part ≡ reading ∷ rest
  pub answers : IsHit settings (moment_of reading.1) old new found rest out ⊎ IsLoad settings over (moment_of reading.1) old new found rest out

-- The journal grew by exactly the part of such a call.
pub record Caches {D : Type 0} (d : Ghosts D) (settings : CacheSettings) (over : ChainSetting) (old new : NameState) (found : List Value) (before later : World D) (out : Answer) : Type 0 where
  pub part : List Pair
  pub grows : Grows d part before later
  pub call : IsCached settings over old new found part out

-- Nothing is held that lasts, and the chain's call has begun, or came to its end.
pub record IsBegunLoad (settings : CacheSettings) (over : ChainSetting) (now : Moment) (old : NameState) (new : States) (found : List Value) (rest : List Pair) : Type 0 where
  pub due : lasting settings old.held now ≡ None
  pub call : IsBegunCall over old.states new found rest ⊎ ((out : Answer) × IsCall over old.states new found rest out)

-- A call has begun: nothing was asked; or the clock was read, and behind that nothing was asked, or a load has begun.
abbrev pub HasBegun : CacheSettings → ChainSetting → NameState → States → List Value → List Pair → Type 0
HasBegun settings over old new found [] = new ≡ old.states
HasBegun settings over old new found (reading ∷ rest) =
    (reading.0 ≡ Now) × (((rest ≡ []) × (new ≡ old.states)) ⊎ IsBegunLoad settings over (moment_of reading.1) old new found rest)

-- Memory ran out: the journal grew by the beginning of a call. What was held stays, and each kept value is as the
-- last finished holding left it.
pub record CacheBreaks {D : Type 0} (d : Ghosts D) (settings : CacheSettings) (over : ChainSetting) (old new : NameState) (found : List Value) (before later : World D) : Type 0 where
  pub held : new.held ≡ old.held
  pub part : List Pair
  pub stays : Stays d part before later
  pub begins : HasBegun settings over old new.states found part

-- ---- whatever the chain found

module _ {D : Type 0} (d : Ghosts D) where
  -- the call, and what it found
  abbrev pub CachesAny : CacheSettings → ChainSetting → NameState → NameState → World D → World D → Answer → Type 0
  CachesAny settings over old new before later out = (found : List Value) × Caches d settings over old new found before later out

  -- memory ran out in a call over what was kept and held
  abbrev pub Breaks : CacheSettings → ChainSetting → NameState → NameState → World D → World D → Type 0
  Breaks settings over old new before later = (found : List Value) × CacheBreaks d settings over old new found before later

-- ---- by what is kept

abbrev pub CachesOn : {D : Type 0} → Ghosts D → CacheSettings → ChainSetting → Loaded → Loaded → World D → World D → Answer → Type 0
CachesOn d settings over old new before later out = Caches d settings over (state_of old) (state_of new) (kept_holdings new.kept).found before later out

abbrev pub BreaksOn : {D : Type 0} → Ghosts D → CacheSettings → ChainSetting → Loaded → Loaded → World D → World D → Type 0
BreaksOn d settings over old new before later = CacheBreaks d settings over (state_of old) (state_of new) (kept_holdings new.kept).found before later

-- The chain was called, and its answer is held.
pub record LoadsOn {D : Type 0} (d : Ghosts D) (settings : CacheSettings) (over : ChainSetting) (now : Moment) (old new : Loaded) (before later : World D) (out : Answer) : Type 0 where
  pub provides : Provides d over (state_of old).states (state_of new).states (kept_holdings new.kept).found before later out
  pub holds : IsHeld settings now out old.held new.held

-- Memory ran out in the chain's call, or behind it.
pub record LoadBreaksOn {D : Type 0} (d : Ghosts D) (over : ChainSetting) (old new : Loaded) (before later : World D) : Type 0 where
  pub held : new.held ≡ old.held
  pub goes : Interrupted d over (state_of old).states (state_of new).states (kept_holdings new.kept).found before later
      ⊎ ((out : Answer) × Provides d over (state_of old).states (state_of new).states (kept_holdings new.kept).found before later out)
