-- A call that follows a provider follows the member.
use Rattle.std.proofs.Common.{Result, Ok, Err, inl, inr, refl}
use Rattle.cfg_world.specs.declared.asking.Asking.{Ghosts}
use Rattle.cfg_world.specs.declared.asking.Stop.{Stop}
use Rattle.cfg_world.specs.declared.asking.Stop.TheVariants.{OutOfMemory, Open}
use Rattle.cfg_world.specs.Follows.{Follows, Halts}
use Rattle.cfg_world.specs.Inquiry.{Inquiry}
use Rattle.cfg_exchange.specs.Containers.{FollowsContainer}
use Rattle.cfg_kept.specs.Holds.{Holdings, HoldsFollows, HoldsHalts}
use Rattle.cfg_kept.specs.KeptInquiry.{KeptInquiry, lift}
use Rattle.cfg_kept.proofs.HoldingSteps.{holds_ends, holds_waits, holds_breaks}
use Rattle.cfg_meta.specs.FollowsMembers.{FollowsMember}
use Rattle.cfg_providers.specs.ContainerSetups.{ContainerSetup, settings_in, asks_container}
use Rattle.cfg_providers.specs.CustomSources.{Answer}
use Rattle.cfg_chain.specs.Settings.{ChainSetting, setting}
use Rattle.cfg_chain.specs.Members.{default_chain}
use Rattle.cfg_chain.specs.Provides.{FollowsDefault}
use Rattle.cfg_chain.specs.profile.Profiles.{profile}
use Rattle.cfg_chain.specs.profile.Provides.{FollowsProfile}
use Rattle.cfg_assume_role.specs.declared.call.RoleCall.{RoleCall}
use Rattle.cfg_assume_role.specs.Bases.{Base, FollowsRole}
use Rattle.cfg_assume_role.specs.Roles.{role_tree}
use Rattle.cfg_credentials_chain.specs.Members.{Asked, OfContainer, OfProfile, ByDefault, ForRole, IsMemberTree}

module _ {A : Type 0} (a : Ghosts A) where
  halts_lifted : (q : Inquiry Answer) (old new : A) (h : Holdings) (stop : Stop) → Halts a q old new stop → HoldsHalts a (lift q) old h new h stop
  halts_lifted q old new h Open f = holds_waits f
  halts_lifted q old new h OutOfMemory f = holds_breaks f

  follows_lifted : (q : Inquiry Answer) (old new : A) (h : Holdings) (out : Result Answer Stop) → Follows a q old new out → HoldsFollows a (lift q) old h new h out
  follows_lifted q old new h (Ok answer) f = holds_ends f
  follows_lifted q old new h (Err stop) f = halts_lifted q old new h stop f

  -- a provider that only asks
  pub asks : (m : Asked) (q : Inquiry Answer) → IsMemberTree m (lift q) → (old new : A) (h : Holdings) (out : Result Answer Stop) →
      Follows a q old new out → FollowsMember a (IsMemberTree m) old h new h out
  asks m q is old new h out f = inr (lift q, is, follows_lifted q old new h out f)

  -- one that also finds and leaves
  pub keeps : (m : Asked) (tree : KeptInquiry Answer) → IsMemberTree m tree → (old new : A) (before later : Holdings) (out : Result Answer Stop) →
      HoldsFollows a tree old before new later out → FollowsMember a (IsMemberTree m) old before new later out
  keeps m tree is old new before later out f = inr (tree, is, f)

  pub asks_named : (c : ContainerSetup) (old new : A) (h : Holdings) (out : Result Answer Stop) →
      FollowsContainer a c.configuration.environment (settings_in c) old new out → FollowsMember a (IsMemberTree (OfContainer c)) old h new h out
  asks_named c old new h out (inl n) = inl (n.0, n.1, refl)
  asks_named c old new h out (inr f) = inr (lift (asks_container c f.0), (f.0, f.1, refl), follows_lifted (asks_container c f.0) old new h out f.2)

  pub by_profile : (over : ChainSetting) (old new : A) (before later : Holdings) (out : Result Answer Stop) →
      FollowsProfile a over old before new later out → FollowsMember a (IsMemberTree (OfProfile over)) old before new later out
  by_profile over old new before later out (inl n) = inl n
  by_profile over old new before later out (inr f) = inr (profile (setting over f.0), (f.0, f.1, refl), f.2)

  pub by_default : (over : ChainSetting) (old new : A) (before later : Holdings) (out : Result Answer Stop) →
      FollowsDefault a over old before new later out → FollowsMember a (IsMemberTree (ByDefault over)) old before new later out
  by_default over old new before later out (inl n) = inl n
  by_default over old new before later out (inr f) = inr (default_chain (setting over f.0), (f.0, f.1, refl), f.2)

  pub for_role : (call : RoleCall) (b : Base) (old new : A) (before later : Holdings) (out : Result Answer Stop) →
      FollowsRole a call b old before new later out → FollowsMember a (IsMemberTree (ForRole call b)) old before new later out
  for_role call b old new before later out (inl n) = inl n
  for_role call b old new before later out (inr f) = inr (role_tree call f.0, (f.0, f.1, refl), f.2)
