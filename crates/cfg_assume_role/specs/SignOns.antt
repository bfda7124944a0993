-- What a role's provider asks IAM Identity Center for.
use Rattle.std.specs.Prelude.{List}
use Rattle.cfg_world.specs.Fits.{Pair}
use Rattle.cfg_kept.specs.Kinds.{Value}
use Rattle.cfg_sso.specs.RoleRequests.{AsksNoRole}
use Rattle.cfg_chain.specs.SignOns.{SignsOn}
use Rattle.cfg_assume_role.specs.Bases.{Base, ByDefault}

-- what its base asks for: a default chain by its plan, and every other nothing
abbrev pub BaseSignsOn : Base → List Value → List Pair → Type 0
BaseSignsOn (ByDefault over) found journal = SignsOn over found journal
BaseSignsOn _ found journal = AsksNoRole journal
