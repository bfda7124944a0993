-- The base of a plan, and then its roles.
use Rattle.std.proofs.Common.{◌≡◌, Some, Result, Ok, sym, subst}
use Rattle.cfg_types.specs.Keys.{Keys}
use Rattle.cfg_world.specs.declared.asking.Asking.{Ghosts}
use Rattle.cfg_world.specs.declared.asking.Stop.{Stop}
use Rattle.cfg_world.specs.Follows.{Ends}
use Rattle.cfg_kept.specs.Holds.{Holdings, HoldsEnds, HoldsFollows}
use Rattle.cfg_kept.specs.KeptInquiry.{lift, onwards_if_ok}
use Rattle.cfg_kept.proofs.HoldingSteps.{holds_ends_then, holds_ends}
use Rattle.cfg_profile.specs.declared.chain.ProfileChain.{ProfileChain}
use Rattle.cfg_providers.specs.CustomSources.{Answer}
use Rattle.cfg_chain.specs.Settings.{Setting, names_of}
use Rattle.cfg_chain.specs.profile.Bases.{based}
use Rattle.cfg_chain.specs.profile.Plans.{settled_plan}
use Rattle.cfg_chain.specs.profile.Profiles.{assumed, follows_planned, follows_plan, profile}
use Rattle.cfg_chain.proofs.OnePlan.{settled_is_plan}

-- a call that follows the settled plan follows the profile
pub settled_follows : {W : Type 0} (w : Ghosts W) (s : Setting) (p : ProfileChain) (old new : W) (before later : Holdings) (out : Result Answer Stop) →
    settled_plan s.configuration ≡ Some p → HoldsFollows w (follows_planned s p) old before new later out → HoldsFollows w (profile s) old before new later out
unfolding profile
settled_follows w s p old new before later out settled h = subst (λ planned. HoldsFollows w (follows_plan s planned) old before new later out) (sym (settled_is_plan s.configuration (names_of s.sources) p settled)) h

pub planned_ends : {W : Type 0} (w : Ghosts W) (s : Setting) (p : ProfileChain) (old mid new : W) (before between : Holdings) (keys : Keys) (out : Answer) →
    HoldsEnds w (based s p.base) old before mid between (Ok keys) → Ends w (assumed s.configuration p.roles keys) mid new out → HoldsEnds w (follows_planned s p) old before new between out
unfolding follows_planned
planned_ends w s p old mid new before between keys out a b = holds_ends_then (onwards_if_ok (λ keys. lift (assumed s.configuration p.roles keys))) a (holds_ends b)
