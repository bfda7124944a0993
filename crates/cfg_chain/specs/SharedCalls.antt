-- What a call of the default chain is by the values that it found, wherever they are kept.
use Rattle.std.specs.Prelude.{◌≡◌, ◌⊎◌, List, true, is_ok, None}
use Rattle.cfg_world.specs.declared.devices.Devices.{Ghosts}
use Rattle.cfg_world.specs.Fits.{Pair}
use Rattle.cfg_world.specs.Held.{Held}
use Rattle.cfg_world.specs.Grows.{Grows, Stays}
use Rattle.cfg_kept.specs.Kinds.{Value}
use Rattle.cfg_kept.specs.KeptInquiry.{Begins}
use Rattle.cfg_providers.specs.CustomSources.{Answer}
use Rattle.cfg_chain.specs.Settings.{ChainSetting, Services, AreServices, setting}
use Rattle.cfg_chain.specs.Members.{default_chain}
use Rattle.cfg_chain.specs.Resolves.{Resolves}
use Rattle.cfg_chain.specs.Valid.{IsValid}

-- A call of a default chain of this setting found these values, has this journal, and came to this outcome, over
-- the services that the configuration names. Where nothing stands in the way, the outcome is credentials.
pub record IsFoundCall (over : ChainSetting) (found : List Value) (part : List Pair) (out : Answer) : Type 0 where
  pub services : Services
  pub names : AreServices over services
  pub resolves : Resolves (setting over services) found part out
  pub valid : IsValid (setting over services) found part → is_ok out ≡ true

-- The journal grew by exactly the part of such a call.
pub record ProvidesFound {D : Type 0} (d : Ghosts D) (over : ChainSetting) (found : List Value) (before later : Held D) (out : Answer) : Type 0 where
  pub part : List Pair
  pub grows : Grows d part before later
  pub call : IsFoundCall over found part out

-- It grew by the beginning of such a part.
pub record BeginsFound {D : Type 0} (d : Ghosts D) (over : ChainSetting) (found : List Value) (before later : Held D) : Type 0 where
  pub services : Services
  pub names : AreServices over services
  pub part : List Pair
  pub stays : Stays d part before later
  pub begins : Begins (default_chain (setting over services)) None found part None

-- Memory ran out: before anything was asked, or over the beginning of a part.
abbrev pub InterruptedFound : {D : Type 0} → Ghosts D → ChainSetting → List Value → Held D → Held D → Type 0
InterruptedFound d over found before later = (later ≡ before) ⊎ BeginsFound d over found before later
