-- Where the member that asks a container sends its requests.
use Rattle.std.proofs.Common.{List, [], ◌∷◌, Option}
use Rattle.std.specs.List.{AllByRecursion}
use Rattle.cfg_world.specs.Fits.{Pair}
use Rattle.cfg_world.specs.Inquiry as low
use Rattle.cfg_world.specs.Inquiry.{Inquiry, Done, Ask}
use Rattle.cfg_exchange.specs.ContainerRequests.{IsSafeQuestion, look_ups}
use Rattle.cfg_exchange.specs.Containers.{IsContainerUri}
use Rattle.cfg_exchange.proofs.SafeRequests.{requests_safe}
use Rattle.cfg_kept.specs.Kinds.{Value, States}
use Rattle.cfg_kept.specs.KeptInquiry.{Begins, lift}
use Rattle.cfg_chain.specs.declared.member.Member.TheVariants.{EcsContainer}
use Rattle.cfg_chain.specs.Settings.{Setting, container_settings}
use Rattle.cfg_chain.specs.Members.{member_tree}
use Rattle.cfg_chain.specs.profile.Bases.{by_container}

-- what has begun of a tree that finds and leaves nothing has begun of its inquiry
pub begun_lowered : {R : Type 0} (p : Inquiry R) (old new : Option States) (found : List Value) (part : List Pair) → Begins (lift p) old found part new → low.Begun p part
begun_lowered (Done r) old new [] [] h = tt
begun_lowered (Done r) old new [] (e ∷ part) h = absurd h
begun_lowered (Done r) old new (f ∷ found) part h = absurd h
begun_lowered (Ask q next) old new [] [] h = tt
begun_lowered (Ask q next) old new (f ∷ found) [] h = absurd h
begun_lowered (Ask q next) old new found (e ∷ part) h = (h.0, begun_lowered (next e.1) old new found part h.1)

pub member_safe : (s : Setting) (old new : Option States) (found : List Value) (part : List Pair) → IsContainerUri s.configuration.environment s.container → Begins (member_tree s EcsContainer) old found part new →
    AllByRecursion (λ e. IsSafeQuestion s.configuration.environment (look_ups part) e.0) part
unfolding member_tree
member_safe s old new found part names h =
    requests_safe s.configuration.environment (container_settings s.configuration) s.container names part (begun_lowered (by_container s.configuration s.container) old new found part h)
