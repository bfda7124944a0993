-- The world's journal gained the part of the roles, and so the answer has its cause.
use Rattle.cfg_providers.specs.AssumeRole.{assumes_roles}
use Rattle.cfg_providers.specs.RoleCauses.{why_roles}
use Rattle.cfg_providers.proofs.RoleCauses.{roles_fail}
use Rattle.cfg_providers.proofs.Providing.{provides_by, interrupted_by}
use Rattle.cfg_providers.proofs.assume_role.assume_roles.Goals as goal

pub returns-in-Ok-clause-provides : goal.returns-in-Ok-clause-provides
returns-in-Ok-clause-provides g c = λ other.
    let e = c.in-Ok.ensures in
    let settings = c.args.settings.now in
    provides_by (assumes_roles settings c.args.roles.now c.args.base) _ _ e.part c.in-Ok.outcome e.grows e.fits e.same e.counted e.reads why_roles e.stands (roles_fail settings c.args.roles.now c.args.base)

pub returns-in-Ok-clause-stays : goal.returns-in-Ok-clause-stays
returns-in-Ok-clause-stays g c = λ no_memory.
    let e = c.in-Ok.ensures in
    interrupted_by (assumes_roles c.args.settings.now c.args.roles.now c.args.base) _ _ e.part c.in-Ok.outcome e.grows e.fits e.same e.counted e.reads
