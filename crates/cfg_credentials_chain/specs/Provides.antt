-- What a call of a chain of credentials providers leaves of a journal and of what is kept of each member.
use Rattle.std.specs.Prelude.{List, Result, map}
use Rattle.cfg_world.specs.declared.asking.Asking.{Ghosts as AskingGhosts}
use Rattle.cfg_world.specs.declared.asking.Stop.{Stop}
use Rattle.cfg_world.specs.declared.devices.Devices.{Ghosts}
use Rattle.cfg_world.specs.Held.{Held}
use Rattle.cfg_kept.specs.declared.kept.Kept.{Kept}
use Rattle.cfg_meta.specs.FollowsMembers.{FollowsMembers}
use Rattle.cfg_meta.specs.MemberParts.{Keeping, keeping_of, with_nothing_found}
use Rattle.cfg_meta.specs.Provides.{ProvidesByMembers, InterruptedMembers}
use Rattle.cfg_providers.specs.CustomSources.{Answer}
use Rattle.cfg_meta.specs.CredentialsAnswers.{credentials_rules}
use Rattle.cfg_credentials_chain.specs.Members.{NamedAsked, name_in, IsNamedTree}

-- what is kept of each member as a call finds it, with nothing found yet
abbrev pub fresh : List Kept → List Keeping
fresh olds = map with_nothing_found (map keeping_of olds)

-- The journal grew by exactly the parts of these members, in order, up to the first that was not passed
-- over, whose answer is the chain's.
abbrev pub ProvidesOn : {D : Type 0} → Ghosts D → List NamedAsked → List Kept → List Kept → Held D → Held D → Answer → Type 0
ProvidesOn d members olds news before later out =
    ProvidesByMembers d credentials_rules name_in IsNamedTree members (fresh olds) (map keeping_of news) before later out

-- Memory ran out, and the journal grew by the beginning of such parts.
abbrev pub InterruptedOn : {D : Type 0} → Ghosts D → List NamedAsked → List Kept → List Kept → Held D → Held D → Type 0
InterruptedOn d members olds news before later =
    InterruptedMembers d credentials_rules name_in IsNamedTree members (fresh olds) (map keeping_of news) before later

-- A call over anything that can be asked follows the chain over these members.
abbrev pub FollowsOn : {A : Type 0} → AskingGhosts A → List NamedAsked → List Kept → List Kept → A → A → Result Answer Stop → Type 0
FollowsOn a members olds news old new out =
    FollowsMembers a credentials_rules name_in IsNamedTree members (map keeping_of olds) (map keeping_of news) old new out
