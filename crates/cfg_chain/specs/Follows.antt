-- What a call over anything that can be asked leaves, by what its keeper holds.
use Rattle.std.specs.Prelude.{List, Option, Result}
use Rattle.cfg_world.specs.declared.asking.Asking.{Ghosts}
use Rattle.cfg_world.specs.declared.asking.Stop.{Stop}
use Rattle.cfg_kept.specs.KeptInquiry.{KeptInquiry}
use Rattle.cfg_kept.specs.declared.keeper.Keeper.{Ghosts as Keeping}
use Rattle.cfg_kept.specs.Holds.{HoldsFollows}
use Rattle.cfg_providers.specs.CustomSources.{Answer}
use Rattle.cfg_chain.specs.declared.member.Member.{Member}
use Rattle.cfg_chain.specs.Askers.{MemberAsks, DefaultMemberAsks, OnOpen}
use Rattle.cfg_chain.specs.Members.{credentials_chain}
use Rattle.cfg_chain.specs.Settings.{ChainSetting, Setting}
use Rattle.cfg_chain.specs.Provides.{FollowsDefault}
use Rattle.cfg_chain.specs.profile.Provides.{FollowsProfile}

module _ {A P : Type 0} (a : Ghosts A) (k : Keeping P) where
  -- It follows a tree.
  abbrev pub FollowsTree : {R : Type 0} → KeptInquiry R → A → A → P → P → Result R Stop → Type 0
  FollowsTree tree old new before later out = HoldsFollows a tree old (k.holdings before) new (k.holdings later) out

  -- It follows a default chain.
  abbrev pub FollowsChain : ChainSetting → A → A → P → P → Result Answer Stop → Type 0
  FollowsChain over old new before later out = FollowsDefault a over old (k.holdings before) new (k.holdings later) out

  -- Where a question is left open, this one of the members asks it.
  abbrev pub TellsAsker : {R : Type 0} → Setting → List Member → A → A → P → P → Option Member → Result R Stop → Type 0
  TellsAsker s members old new before later who out =
      OnOpen out (MemberAsks (credentials_chain s) a members old (k.holdings before) new (k.holdings later) who)

  -- Where a question is left open, this member of a default chain asks it.
  abbrev pub TellsDefaultAsker : {R : Type 0} → ChainSetting → A → A → P → P → Option Member → Result R Stop → Type 0
  TellsDefaultAsker over old new before later who out =
      OnOpen out (DefaultMemberAsks a over old (k.holdings before) new (k.holdings later) who)

  -- It follows the provider of a profile's credentials.
  abbrev pub FollowsProvider : ChainSetting → A → A → P → P → Result Answer Stop → Type 0
  FollowsProvider over old new before later out = FollowsProfile a over old (k.holdings before) new (k.holdings later) out
