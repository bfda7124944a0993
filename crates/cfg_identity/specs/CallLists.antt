-- Lists of calls of a cache, and what one call gives.
use Rattle.std.specs.Prelude.{◌≡◌, ℕ, List, [], ◌∷◌, true, Option, IfSome, Result, Ok, if◌then◌else◌}
use Rattle.std.specs.Str.{bytes_eq}
use Rattle.cfg_types.specs.Keys.{Keys}
use Rattle.cfg_world.specs.declared.devices.Devices.{Ghosts}
use Rattle.cfg_world.specs.Fits.{Pair}
use Rattle.cfg_world.specs.Held.{Held as World}
use Rattle.cfg_world.specs.Leaves.{moment_of}
use Rattle.cfg_kept.specs.Kinds.{Value, States}
use Rattle.cfg_chain.specs.Provides.{IsCall}
use Rattle.cfg_chain.specs.Settings.{ChainSetting}
use Rattle.cfg_identity.specs.declared.fault.CacheFault.{CacheFault}
use Rattle.cfg_identity.specs.declared.settings.CacheSettings.{CacheSettings}
use Rattle.cfg_identity.specs.Entries.{Entry, Entries, IsAdded, IsResolved, OthersStay, SameEntries}
use Rattle.cfg_identity.specs.Lives.{has_time_left}

-- A call, with its answer: a chain is added under a name, or a name is asked for over a world, which is so before
-- and so later.
pub data CacheCall (D : Type 0) : Type 0 where
  Adds : (name : List ℕ) → (over : ChainSetting) → (out : Result (Unit {0}) CacheFault) → CacheCall D
  Resolves : (name : List ℕ) → (before : World D) → (later : World D) → (out : Result Keys CacheFault) → CacheCall D

abbrev pub name_of : {D : Type 0} → CacheCall D → List ℕ
name_of (Adds name over out) = name
name_of (Resolves name before later out) = name

-- the calls under a name, in order
abbrev pub own_calls : {D : Type 0} → List ℕ → List (CacheCall D) → List (CacheCall D)
own_calls name [] = []
own_calls name (call ∷ calls) = if bytes_eq name (name_of call) then call ∷ own_calls name calls else own_calls name calls

module _ {D : Type 0} (d : Ghosts D) (settings : CacheSettings) where
  -- what a call leaves under its own name
  abbrev pub IsOwnCall : CacheCall D → Option Entry → Option Entry → Type 0
  IsOwnCall (Adds name over out) old new = IsAdded over name old new out
  IsOwnCall (Resolves name before later out) old new = IsResolved d settings name old new before later out

  -- what a call leaves of a cache, as `add` and `resolve` promise it
  pub record IsCallOf (call : CacheCall D) (old new : Entries) : Type 0 where
    pub own : IsOwnCall call (old (name_of call)) (new (name_of call))
    pub others : OthersStay (name_of call) old new

  -- calls of a cache, one after another
  abbrev pub AreCallsOf : Entries → List (CacheCall D) → Entries → Type 0
  AreCallsOf old [] new = SameEntries old new
  AreCallsOf old (call ∷ calls) new = (mid : Entries) × IsCallOf call old mid × AreCallsOf mid calls new

  -- calls under one name, each on what the one before left there
  abbrev pub AreOwnCalls : Option Entry → List (CacheCall D) → Option Entry → Type 0
  AreOwnCalls old [] new = new ≡ old
  AreOwnCalls old (call ∷ calls) new = (mid : Option Entry) × IsOwnCall call old mid × AreOwnCalls mid calls new

-- ---- what one call gives

-- Nothing but a reading of the clock was asked, by which these credentials, where they have an expiry, last for more
-- than the buffer.
pub record AreLasting (settings : CacheSettings) (keys : Keys) (part : List Pair) : Type 0 where
  pub reading : Pair
  pub asks : part ≡ reading ∷ []
  pub lasts : IfSome keys.expiry (λ expiry. has_time_left settings expiry (moment_of reading.1) ≡ true)

-- They are what the chain answered, behind a reading of the clock.
pub record AreOfChain (over : ChainSetting) (old new : States) (found : List Value) (keys : Keys) (part : List Pair) : Type 0 where
  pub reading : Pair
  pub rest : List Pair
  pub asks : part ≡ reading ∷ rest
  pub call : IsCall over old new found rest (Ok keys)

-- the same, whatever was kept
abbrev pub AreOfFoundChain : ChainSetting → List Value → Keys → List Pair → Type 0
AreOfFoundChain over found keys part = (old : States) × (new : States) × AreOfChain over old new found keys part
