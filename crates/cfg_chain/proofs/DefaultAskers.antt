-- The member that asks is one of the default chain, over the services that the configuration names.
use Rattle.std.proofs.Common.{◌≡◌, Option, Result, Ok, Err, subst}
use Rattle.cfg_world.specs.declared.asking.Asking.{Ghosts}
use Rattle.cfg_world.specs.declared.asking.Stop.{Stop}
use Rattle.cfg_world.specs.declared.asking.Stop.TheVariants.{Open, OutOfMemory}
use Rattle.cfg_kept.specs.Holds.{Holdings}
use Rattle.cfg_chain.specs.declared.member.Member.{Member}
use Rattle.cfg_chain.specs.Askers.{MemberAsks, DefaultMemberAsks, OnOpen}
use Rattle.cfg_chain.specs.Members.{credentials_chain, default_members}
use Rattle.cfg_chain.specs.Settings.{ChainSetting, Services, AreServices, Setting, setting}

pub default_asker : {A R : Type 0} (a : Ghosts A) (over : ChainSetting) (services : Services) (s : Setting) (old new : A) (before later : Holdings) (who : Option Member) (out : Result R Stop) →
    AreServices over services → s ≡ setting over services → OnOpen out (MemberAsks (credentials_chain s) a default_members old before new later who) → OnOpen out (DefaultMemberAsks a over old before new later who)
default_asker a over services s old new before later who (Ok x) names same h = tt
default_asker a over services s old new before later who (Err Open) names same h =
    record { services = services; names = names; asks = subst (λ t. MemberAsks (credentials_chain t) a default_members old before new later who) same h }
default_asker a over services s old new before later who (Err OutOfMemory) names same h = tt
