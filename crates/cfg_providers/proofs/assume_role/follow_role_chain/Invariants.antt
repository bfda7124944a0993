-- What is left is the derivation of the other roles from the last credentials.
use Rattle.std.proofs.Common.{drop}
use Rattle.cfg_world.proofs.Inquiries.{Leads}
use Rattle.cfg_providers.specs.AssumeRole.{assumes_roles}
use Rattle.cfg_providers.proofs.assume_role.follow_role_chain.Given as goal

abbrev pub invariant-loop-role : goal.invariant-loop-role
invariant-loop-role g l = Leads g.A.Asking (assumes_roles l.settings l.roles l.fn.base) l.fn.asking l.asking (assumes_roles l.settings (drop l.role-index l.roles) l.signer)
