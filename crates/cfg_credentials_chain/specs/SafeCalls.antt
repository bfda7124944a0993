-- Where the `Http` requests of members and of their chain go.
use Rattle.std.specs.Prelude.{◌≡◌, ◌⊎◌, List, ◌∷◌, ◌++◌}
use Rattle.cfg_world.specs.Fits.{Pair}
use Rattle.cfg_exchange.specs.SafeJournals.{AsksNoHttp, AsksSafely}
use Rattle.cfg_providers.specs.ContainerSetups.{settings_in}
use Rattle.cfg_chain.specs.SafeCalls.{ChainAsksSafely}
use Rattle.cfg_assume_role.specs.SafeCalls.{BaseAsksSafely}
use Rattle.cfg_credentials_chain.specs.Members.{Asked, OfContainer, OfProfile, ByDefault, ForRole, NamedAsked}

-- Those of a container, of a profile, of a default chain and of a role over one go to safe targets, each by
-- the variables of its own configuration. No other member has any.
abbrev pub MemberAsksSafely : Asked → List Pair → Type 0
MemberAsksSafely (OfContainer c) journal = AsksSafely c.configuration.environment (settings_in c) journal
MemberAsksSafely (OfProfile over) journal = ChainAsksSafely over journal
MemberAsksSafely (ByDefault over) journal = ChainAsksSafely over journal
MemberAsksSafely (ForRole call b) journal = BaseAsksSafely b journal
MemberAsksSafely _ journal = AsksNoHttp journal

-- One of the members has all `Http` requests of the stretch: behind the parts of those before it, which
-- have none, stands its own, whose requests go to safe targets.
pub record OneAsksSafely (members : List NamedAsked) (journal : List Pair) : Type 0 where
  pub passed_over : List NamedAsked
  pub who : NamedAsked
  pub not_asked : List NamedAsked
  pub order : members ≡ passed_over ++ who ∷ not_asked
  pub before : List Pair
  pub own : List Pair
  pub parts : journal ≡ before ++ own
  pub alone_before : AsksNoHttp before
  pub safe : MemberAsksSafely who.1 own

-- One member has them all, or there is none.
abbrev pub MembersAskSafely : List NamedAsked → List Pair → Type 0
MembersAskSafely members journal = OneAsksSafely members journal ⊎ AsksNoHttp journal
