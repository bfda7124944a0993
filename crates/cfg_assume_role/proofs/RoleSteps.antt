-- The base, and then the exchange.
use Rattle.std.proofs.Common.{Result, Ok, Err, refl, inl, inr}
use Rattle.std.specs.Prelude.{◌⊎◌}
use Rattle.cfg_world.specs.declared.asking.Asking.{Ghosts}
use Rattle.cfg_world.specs.declared.asking.Stop.{Stop}
use Rattle.cfg_world.specs.declared.asking.Stop.TheVariants.{OutOfMemory, Open}
use Rattle.cfg_world.specs.Follows.{Ends, Halts, Follows}
use Rattle.cfg_kept.specs.KeptInquiry.{KeptInquiry, Gives, lift}
use Rattle.cfg_kept.specs.Holds.{Holdings, HoldsEnds, HoldsFollows, HoldsHalts}
use Rattle.cfg_kept.proofs.HoldingSteps.{holds_ends_then, holds_waits_then, holds_breaks_then, holds_waits_first, holds_breaks_first, holds_ends, holds_waits, holds_breaks}
use Rattle.cfg_exchange.proofs.Checks.{not_stopped}
use Rattle.cfg_providers.specs.CustomSources.{Answer}
use Rattle.cfg_providers.specs.EnvironmentKeys.{by_environment}
use Rattle.cfg_chain.specs.Settings.{setting}
use Rattle.cfg_chain.specs.Members.{default_chain}
use Rattle.cfg_assume_role.specs.declared.call.RoleCall.{RoleCall}
use Rattle.cfg_assume_role.specs.Roles.{behind_base, role_tree}
use Rattle.cfg_assume_role.specs.Bases.{Base, ByDefault, ByEnvironment, ByKeys, BySource, IsBaseTree, NothingAsked, FollowsBase, FollowsRole}

module _ {W : Type 0} (w : Ghosts W) where
  -- what follows a base follows a tree of it, or nothing was asked
  base_tree : (b : Base) (old new : W) (before later : Holdings) (out : Result Answer Stop) → FollowsBase w b old before new later out →
      NothingAsked old before new later out ⊎ ((tree : KeptInquiry Answer) × IsBaseTree b tree × HoldsFollows w tree old before new later out)
  base_tree (ByDefault over) old new before later out (inl n) = inl n
  base_tree (ByDefault over) old new before later out (inr h) = inr (default_chain (setting over h.0), (h.0, h.1, refl), h.2)
  base_tree (ByEnvironment env) old new before later out h = inr (lift (by_environment env), refl, h)
  base_tree (ByKeys keys) old new before later out h = inr (Gives (Ok keys), refl, h)
  base_tree (BySource answer) old new before later out h = inr (Gives answer, refl, h)

  halts_first : (call : RoleCall) (tree : KeptInquiry Answer) (old new : W) (before later : Holdings) (stop : Stop) → HoldsHalts w tree old before new later stop → HoldsHalts w (role_tree call tree) old before new later stop
  unfolding role_tree
  halts_first call tree old new before later Open h = holds_waits_first (λ given. lift (behind_base call given)) h
  halts_first call tree old new before later OutOfMemory h = holds_breaks_first (λ given. lift (behind_base call given)) h

  halts_then : (call : RoleCall) (tree : KeptInquiry Answer) (old mid new : W) (before between : Holdings) (given : Answer) (stop : Stop) →
      HoldsEnds w tree old before mid between given → Halts w (behind_base call given) mid new stop → HoldsHalts w (role_tree call tree) old before new between stop
  unfolding role_tree
  halts_then call tree old mid new before between given Open a h = holds_waits_then (λ x. lift (behind_base call x)) a (holds_waits h)
  halts_then call tree old mid new before between given OutOfMemory a h = holds_breaks_then (λ x. lift (behind_base call x)) a (holds_breaks h)

  role_ends : (call : RoleCall) (b : Base) (old mid new : W) (before between : Holdings) (given out : Answer) →
      FollowsBase w b old before mid between (Ok given) → Ends w (behind_base call given) mid new out → FollowsRole w call b old before new between (Ok out)
  unfolding role_tree
  role_ends call b old mid new before between given out f e = elim (base_tree b old mid before between (Ok given) f) [
    | inl n ↦ absurd (not_stopped _ _ n.0)
    | inr h ↦ inr (h.0, h.1, holds_ends_then (λ x. lift (behind_base call x)) h.2 (holds_ends e))
  ]

  -- it stopped in the base
  pub role_stopped : (call : RoleCall) (b : Base) (old new : W) (before later : Holdings) (stop : Stop) →
      FollowsBase w b old before new later (Err stop) → FollowsRole w call b old before new later (Err stop)
  role_stopped call b old new before later stop f = elim (base_tree b old new before later (Err stop) f) [
    | inl n ↦ inl n
    | inr h ↦ inr (h.0, h.1, halts_first call h.0 old new before later stop h.2)
  ]

  -- it stopped behind the base
  role_stopped_later : (call : RoleCall) (b : Base) (old mid new : W) (before between : Holdings) (given : Answer) (stop : Stop) →
      FollowsBase w b old before mid between (Ok given) → Halts w (behind_base call given) mid new stop → FollowsRole w call b old before new between (Err stop)
  role_stopped_later call b old mid new before between given stop f e = elim (base_tree b old mid before between (Ok given) f) [
    | inl n ↦ absurd (not_stopped _ _ n.0)
    | inr h ↦ inr (h.0, h.1, halts_then call h.0 old mid new before between given stop h.2 e)
  ]

  -- behind the base it went on
  pub role_goes_on : (call : RoleCall) (b : Base) (old mid new : W) (before between : Holdings) (given : Answer) (result : Result Answer Stop) →
      FollowsBase w b old before mid between (Ok given) → Follows w (behind_base call given) mid new result → FollowsRole w call b old before new between result
  role_goes_on call b old mid new before between given (Ok out) f e = role_ends call b old mid new before between given out f e
  role_goes_on call b old mid new before between given (Err stop) f e = role_stopped_later call b old mid new before between given stop f e
