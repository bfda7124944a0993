-- What a call of a profile's provider leaves of the world's journal and of what is kept.
use Rattle.std.specs.Prelude.{◌≡◌, ◌⊎◌, List, true, is_ok, Some, Result, Ok, Err}
use Rattle.cfg_world.specs.declared.asking.Asking.{Ghosts as AskingGhosts}
use Rattle.cfg_world.specs.declared.asking.Stop.{Stop}
use Rattle.cfg_world.specs.declared.asking.Stop.TheVariants.{OutOfMemory}
use Rattle.cfg_world.specs.declared.devices.Devices.{Ghosts}
use Rattle.cfg_world.specs.Fits.{Pair}
use Rattle.cfg_world.specs.Held.{Held}
use Rattle.cfg_world.specs.Grows.{Grows, Stays}
use Rattle.cfg_kept.specs.declared.kept.Kept.{Kept}
use Rattle.cfg_kept.specs.Kinds.{Value, States}
use Rattle.cfg_kept.specs.KeptStates.{kept_holdings, states_of}
use Rattle.cfg_kept.specs.KeptInquiry.{Reads, Begins, found_by, kept_after}
use Rattle.cfg_kept.specs.Holds.{Holdings, HoldsFollows}
use Rattle.cfg_providers.specs.CustomSources.{Answer}
use Rattle.cfg_chain.specs.Settings.{Setting, ChainSetting, Services, AreServices, setting, names_of}
use Rattle.cfg_chain.specs.Valid.{AreOfUse, IsBase, IsFile}
use Rattle.cfg_chain.specs.profile.Causes.{ProfileCause}
use Rattle.cfg_chain.specs.profile.Plans.{Planned, plan}
use Rattle.cfg_chain.specs.profile.Profiles.{profile}

-- there is a plan, and its base has something to give
abbrev pub PlanGives : Setting → Planned → List Value → List Pair → Type 0
PlanGives s (Ok p) found part = IsBase s p.base found part
PlanGives s (Err e) found part = ⊥

-- Nothing stands in the way of the profile's credentials: there is a plan whose base has something to give,
-- and each answer in the part is of use.
pub record IsUsable (s : Setting) (found : List Value) (part : List Pair) : Type 0 where
  pub given : PlanGives s (plan s.configuration (names_of s.sources)) found part
  pub answers : AreOfUse (IsFile s.configuration.environment (plan s.configuration (names_of s.sources))) part

-- A call of a profile's provider of this setting found these values, has this part, and came to this outcome, which
-- has its cause, over the services that the configuration names: these are one. Where nothing stands in the way, the
-- outcome is credentials.
pub record IsProfileCall (over : ChainSetting) (old new : States) (found : List Value) (part : List Pair) (out : Answer) : Type 0 where
  pub services : Services
  pub names : AreServices over services
  pub finds : found ≡ found_by (profile (setting over services)) old part
  pub reads : Reads (profile (setting over services)) found part out
  pub cause : ProfileCause (setting over services) found part out
  pub keeps : new ≡ kept_after (profile (setting over services)) old part
  pub valid : IsUsable (setting over services) found part → is_ok out ≡ true

-- The journal grew by exactly the part of such a call.
pub record ProvidesByProfile {D : Type 0} (d : Ghosts D) (over : ChainSetting) (old new : States) (found : List Value) (before later : Held D) (out : Answer) : Type 0 where
  pub part : List Pair
  pub grows : Grows d part before later
  pub call : IsProfileCall over old new found part out

-- It grew by the beginning of such a part. Each kept value is as the last finished holding left it.
pub record ProfileBeginning {D : Type 0} (d : Ghosts D) (over : ChainSetting) (old new : States) (found : List Value) (before later : Held D) : Type 0 where
  pub services : Services
  pub names : AreServices over services
  pub part : List Pair
  pub stays : Stays d part before later
  pub begins : Begins (profile (setting over services)) (Some old) found part (Some new)

-- Memory ran out: before it was known what services the configuration names, and nothing was asked; or
-- over the beginning of a part.
abbrev pub InterruptedProfile : {D : Type 0} → Ghosts D → ChainSetting → States → States → List Value → Held D → Held D → Type 0
InterruptedProfile d over old new found before later =
    ((later ≡ before) × (new ≡ old)) ⊎ ProfileBeginning d over old new found before later

-- A call over anything that can be asked follows the profile's questions; or memory ran out before it was
-- known what services the configuration names, and nothing was asked.
abbrev pub FollowsProfile : {A : Type 0} → AskingGhosts A → ChainSetting → A → Holdings → A → Holdings → Result Answer Stop → Type 0
FollowsProfile a over old before new later out =
    ((out ≡ Err OutOfMemory) × (new ≡ old) × (later ≡ before))
    ⊎ ((services : Services) × AreServices over services × HoldsFollows a (profile (setting over services)) old before new later out)

-- ---- by what is kept

-- The journal grew by exactly the part of a call on what is kept.
abbrev pub ProvidesByProfileOn : {D : Type 0} → Ghosts D → ChainSetting → Kept → Kept → Held D → Held D → Answer → Type 0
ProvidesByProfileOn d over old new before later out = ProvidesByProfile d over (states_of old) (states_of new) (kept_holdings new).found before later out

-- Memory ran out.
abbrev pub InterruptedProfileOn : {D : Type 0} → Ghosts D → ChainSetting → Kept → Kept → Held D → Held D → Type 0
InterruptedProfileOn d over old new before later = InterruptedProfile d over (states_of old) (states_of new) (kept_holdings new).found before later
