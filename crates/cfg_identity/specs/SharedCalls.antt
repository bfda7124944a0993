-- Calls of a shared cache, by what they found.
use Rattle.std.specs.Prelude.{◌≡◌, ◌⊎◌, ℕ, List, [], map, Option, Some, None, Err}
use Rattle.cfg_base.specs.Text.{characters}
use Rattle.cfg_world.specs.declared.devices.Devices.{Ghosts}
use Rattle.cfg_world.specs.Held.{Held as World}
use Rattle.cfg_kept.specs.FoundValues.{bare}
use Rattle.cfg_chain.specs.Settings.{ChainSetting}
use Rattle.cfg_identity.specs.declared.fault.CacheFault.TheVariants as fault
use Rattle.cfg_identity.specs.declared.held.Held.{Held}
use Rattle.cfg_identity.specs.declared.settings.CacheSettings.{CacheSettings}
use Rattle.cfg_identity.specs.declared.shared.CacheAnswer.{CacheAnswer}
use Rattle.cfg_identity.specs.Cached.{Caches, Breaks, CacheBreaks}
use Rattle.cfg_identity.specs.Faults.{Tells}
use Rattle.cfg_identity.specs.NameStates.{NameState}

-- nothing was found
abbrev pub NothingFound : CacheAnswer → Type 0
NothingFound answer = (answer.held ≡ None) × (answer.kept ≡ [])

-- A name that is not there is told, or memory ran out.
abbrev pub IsUnknown : List ℕ → CacheAnswer → Type 0
IsUnknown name answer = NothingFound answer × ((answer.outcome ≡ Err (fault.Unknown (characters name))) ⊎ (answer.outcome ≡ Err fault.OutOfMemory))

-- This is held, and what is kept is as it was.
abbrev pub IsPutBack : Option Held → NameState → NameState → Type 0
IsPutBack held old new = (new.held ≡ held) × (new.states ≡ old.states)

module _ {D : Type 0} (d : Ghosts D) where
  -- Memory ran out. The answer tells what was held, and which kept values the chain found, or nothing of either.
  abbrev pub FindsBroken : CacheSettings → ChainSetting → NameState → NameState → World D → World D → CacheAnswer → Type 0
  FindsBroken settings over old new before later answer =
      ((answer.held ≡ old.held) × CacheBreaks d settings over old new (map bare answer.kept) before later)
      ⊎ (NothingFound answer × Breaks d settings over old new before later)

  -- A call over what was kept and held. Its answer tells what was held, and which kept values the chain found.
  abbrev pub FindsOn : CacheSettings → ChainSetting → NameState → NameState → World D → World D → CacheAnswer → Type 0
  FindsOn settings over old new before later answer = Tells
      (λ out. (answer.held ≡ old.held) × Caches d settings over old new (map bare answer.kept) before later out)
      (FindsBroken settings over old new before later answer)
      answer.outcome

  -- The same, wherever it is kept and held.
  pub record IsFoundCall (settings : CacheSettings) (over : ChainSetting) (before later : World D) (answer : CacheAnswer) : Type 0 where
    pub old : NameState
    pub new : NameState
    pub call : FindsOn settings over old new before later answer

  -- A call under a name, by the chain that stands there. Where none does nothing is asked.
  abbrev pub IsShared : CacheSettings → List ℕ → Option ChainSetting → World D → World D → CacheAnswer → Type 0
  IsShared settings name None before later answer = (later ≡ before) × IsUnknown name answer
  IsShared settings name (Some over) before later answer = IsFoundCall settings over before later answer
