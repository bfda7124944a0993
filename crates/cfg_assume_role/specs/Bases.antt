-- Where the credentials come from that sign a role's exchange.
use Rattle.std.specs.Prelude.{◌≡◌, ◌⊎◌, List, [], Option, None, Result, Ok, Err}
use Rattle.std.specs.declared.alloc.Global.{Global}
use Rattle.std.specs.declared.dyn_box.DynBox.{DynBox}
use Rattle.cfg_types.specs.Keys.{Keys}
use Rattle.cfg_types.specs.Environment.{Variables}
use Rattle.cfg_world.specs.declared.asking.Asking.{Ghosts}
use Rattle.cfg_world.specs.declared.asking.Stop.{Stop}
use Rattle.cfg_world.specs.declared.asking.Stop.TheVariants.{OutOfMemory}
use Rattle.cfg_world.specs.Fits.{Pair}
use Rattle.cfg_kept.specs.Kinds.{Value, States}
use Rattle.cfg_kept.specs.KeptInquiry.{KeptInquiry, Gives, lift}
use Rattle.cfg_kept.specs.declared.keeper.Keeper.{Ghosts as Keeping}
use Rattle.cfg_kept.specs.Holds.{Holdings, HoldsFollows}
use Rattle.cfg_exchange.specs.Classifiers.{Repeats}
use Rattle.cfg_providers.specs.CustomSources.{Answer}
use Rattle.cfg_providers.specs.EnvironmentKeys.{environment, by_environment}
use Rattle.cfg_chain.specs.Settings.{ChainSetting, Services, AreServices, setting}
use Rattle.cfg_chain.specs.Views.{of_box, chain_by}
use Rattle.cfg_chain.specs.profile.Plans.{key_of}
use Rattle.cfg_token.specs.declared.token_key.TokenKey.{TokenKey}
use Rattle.cfg_chain.specs.Members.{default_chain}
use Rattle.cfg_chain.specs.Provides.{IsCall, FollowsDefault}
use Rattle.cfg_assume_role.specs.declared.base.RoleBase.{RoleBase}
use Rattle.cfg_assume_role.specs.declared.base.RoleBase.TheVariants as base
use Rattle.cfg_assume_role.specs.declared.call.RoleCall.{RoleCall}
use Rattle.cfg_assume_role.specs.Roles.{role_tree}

-- A base, as contracts see it: a default chain by its setting, the environment by its variables,
-- credentials, or a caller's own source by what it answers.
pub data Base : Type 0 where
  ByDefault : (over : ChainSetting) → Base
  ByEnvironment : (variables : Variables) → Base
  ByKeys : (keys : Keys) → Base
  BySource : (answer : Answer) → Base

module _ {V W : Type 0} {I : V → Type 0} {J : W → Type 0} where
  -- the base, by what a caller's sources answer and what a classifier repeats
  abbrev pub base_by : (DynBox V Global I → Answer) → (DynBox W Global J → Repeats) → RoleBase V W I J → Base
  base_by value repeated (base.Default chain) = ByDefault (chain_by value repeated chain)
  base_by value repeated (base.Environment variables) = ByEnvironment variables
  base_by value repeated (base.Fixed keys) = ByKeys keys
  base_by value repeated (base.Custom source) = BySource (value source)

  -- the same, by the meaning of a classifier's interface
  abbrev pub base_of : (DynBox V Global I → Answer) → ((w : W) × J w → Repeats) → RoleBase V W I J → Base
  base_of value repeated b = base_by value (of_box repeated) b

-- whose token a base needs
abbrev pub base_key : Base → Option TokenKey
base_key (ByDefault over) = key_of over.configuration
base_key _ = None

-- The tree of a base. That of a default chain is over the services that its configuration names: there is
-- one answer.
abbrev pub IsBaseTree : Base → KeptInquiry Answer → Type 0
IsBaseTree (ByDefault over) tree = (services : Services) × AreServices over services × (tree ≡ default_chain (setting over services))
IsBaseTree (ByEnvironment env) tree = tree ≡ lift (by_environment env)
IsBaseTree (ByKeys keys) tree = tree ≡ Gives (Ok keys)
IsBaseTree (BySource answer) tree = tree ≡ Gives answer

-- Memory ran out before it was known what services the configuration names, and nothing was asked.
abbrev pub NothingAsked : {A : Type 0} → A → Holdings → A → Holdings → Result Answer Stop → Type 0
NothingAsked old before new later out = (out ≡ Err OutOfMemory) × (new ≡ old) × (later ≡ before)

-- A call over anything that can be asked follows the base.
abbrev pub FollowsBase : {A : Type 0} → Ghosts A → Base → A → Holdings → A → Holdings → Result Answer Stop → Type 0
FollowsBase a (ByDefault over) old before new later out = FollowsDefault a over old before new later out
FollowsBase a (ByEnvironment env) old before new later out = HoldsFollows a (lift (by_environment env)) old before new later out
FollowsBase a (ByKeys keys) old before new later out = HoldsFollows a (Gives (Ok keys)) old before new later out
FollowsBase a (BySource answer) old before new later out = HoldsFollows a (Gives answer) old before new later out

-- A call over anything that can be asked follows the provider's tree; or memory ran out before anything
-- was asked.
abbrev pub FollowsRole : {A : Type 0} → Ghosts A → RoleCall → Base → A → Holdings → A → Holdings → Result Answer Stop → Type 0
FollowsRole a call b old before new later out =
    NothingAsked old before new later out
    ⊎ ((tree : KeptInquiry Answer) × IsBaseTree b tree × HoldsFollows a (role_tree call tree) old before new later out)

-- A quiet base finds nothing, asks nothing and leaves what is kept as it was.
abbrev pub IsQuiet : Answer → States → States → List Value → List Pair → Answer → Type 0
IsQuiet answer old new found part given = (found ≡ []) × (part ≡ []) × (old ≡ new) × (answer ≡ given)

-- A call of a base found these values, has this part, and gave this answer: by the contract of each.
abbrev pub IsBaseCall : Base → States → States → List Value → List Pair → Answer → Type 0
IsBaseCall (ByDefault over) old new found part given = IsCall over old new found part given
IsBaseCall (ByEnvironment env) old new found part given = IsQuiet (environment env) old new found part given
IsBaseCall (ByKeys keys) old new found part given = IsQuiet (Ok keys) old new found part given
IsBaseCall (BySource answer) old new found part given = IsQuiet answer old new found part given

-- ---- by what a keeper holds

module _ {A P : Type 0} (a : Ghosts A) (k : Keeping P) where
  abbrev pub FollowsBaseBy : Base → A → A → P → P → Result Answer Stop → Type 0
  FollowsBaseBy b old new before later out = FollowsBase a b old (k.holdings before) new (k.holdings later) out

  abbrev pub FollowsRoleBy : RoleCall → Base → A → A → P → P → Result Answer Stop → Type 0
  FollowsRoleBy call b old new before later out = FollowsRole a call b old (k.holdings before) new (k.holdings later) out
