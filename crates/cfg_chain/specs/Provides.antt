-- What a call of the default chain leaves of the world's journal and of what is kept.
use Rattle.std.specs.Prelude.{◌≡◌, ◌⊎◌, List, true, is_ok, Some, Result, Err}
use Rattle.cfg_world.specs.declared.asking.Asking.{Ghosts as AskingGhosts}
use Rattle.cfg_world.specs.declared.asking.Stop.{Stop}
use Rattle.cfg_world.specs.declared.asking.Stop.TheVariants.{OutOfMemory}
use Rattle.cfg_world.specs.declared.devices.Devices.{Ghosts}
use Rattle.cfg_world.specs.Fits.{Pair}
use Rattle.cfg_world.specs.Held.{Held}
use Rattle.cfg_world.specs.Grows.{Grows, Stays}
use Rattle.cfg_kept.specs.declared.kept.Kept.{Kept}
use Rattle.cfg_kept.specs.Kinds.{Value, States}
use Rattle.cfg_kept.specs.KeptStates.{kept_holdings, states_of}
use Rattle.cfg_kept.specs.KeptInquiry.{Begins, found_by, kept_after}
use Rattle.cfg_kept.specs.Holds.{Holdings, HoldsFollows}
use Rattle.cfg_providers.specs.CustomSources.{Answer}
use Rattle.cfg_chain.specs.Settings.{ChainSetting, Services, AreServices, setting}
use Rattle.cfg_chain.specs.Members.{default_chain}
use Rattle.cfg_chain.specs.Resolves.{Resolves}
use Rattle.cfg_chain.specs.Valid.{IsValid}

-- A call of a default chain of this setting found these values, has this journal, and came to this outcome,
-- over the services that the configuration names, and these are one. Where nothing stands in the
-- way, the outcome is credentials.
pub record IsCall (over : ChainSetting) (old new : States) (found : List Value) (part : List Pair) (out : Answer) : Type 0 where
  pub services : Services
  pub names : AreServices over services
  pub finds : found ≡ found_by (default_chain (setting over services)) old part
  pub resolves : Resolves (setting over services) found part out
  pub keeps : new ≡ kept_after (default_chain (setting over services)) old part
  pub valid : IsValid (setting over services) found part → is_ok out ≡ true

-- The journal grew by exactly the part of such a call.
pub record Provides {D : Type 0} (d : Ghosts D) (over : ChainSetting) (old new : States) (found : List Value) (before later : Held D) (out : Answer) : Type 0 where
  pub part : List Pair
  pub grows : Grows d part before later
  pub call : IsCall over old new found part out

-- It grew by the beginning of such a part. Each kept value is as the last finished holding left it.
pub record ProvidesBeginning {D : Type 0} (d : Ghosts D) (over : ChainSetting) (old new : States) (found : List Value) (before later : Held D) : Type 0 where
  pub services : Services
  pub names : AreServices over services
  pub part : List Pair
  pub stays : Stays d part before later
  pub begins : Begins (default_chain (setting over services)) (Some old) found part (Some new)

-- Memory ran out: before it was known what services the configuration names, and nothing was asked; or
-- over the beginning of a part.
abbrev pub Interrupted : {D : Type 0} → Ghosts D → ChainSetting → States → States → List Value → Held D → Held D → Type 0
Interrupted d over old new found before later =
    ((later ≡ before) × (new ≡ old)) ⊎ ProvidesBeginning d over old new found before later

-- A call over anything that can be asked follows the default chain; or memory ran out before it was
-- known what services the configuration names, and nothing was asked.
abbrev pub FollowsDefault : {A : Type 0} → AskingGhosts A → ChainSetting → A → Holdings → A → Holdings → Result Answer Stop → Type 0
FollowsDefault a over old before new later out =
    ((out ≡ Err OutOfMemory) × (new ≡ old) × (later ≡ before))
    ⊎ ((services : Services) × AreServices over services × HoldsFollows a (default_chain (setting over services)) old before new later out)

-- ---- by what is kept

-- The journal grew by exactly the part of a call on what is kept.
abbrev pub ProvidesOn : {D : Type 0} → Ghosts D → ChainSetting → Kept → Kept → Held D → Held D → Answer → Type 0
ProvidesOn d over old new before later out = Provides d over (states_of old) (states_of new) (kept_holdings new).found before later out

-- Memory ran out.
abbrev pub InterruptedOn : {D : Type 0} → Ghosts D → ChainSetting → Kept → Kept → Held D → Held D → Type 0
InterruptedOn d over old new before later = Interrupted d over (states_of old) (states_of new) (kept_holdings new).found before later
