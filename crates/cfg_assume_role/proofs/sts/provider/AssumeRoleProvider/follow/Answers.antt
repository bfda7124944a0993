-- The base, and then the exchange.
use Rattle.cfg_assume_role.proofs.RoleSteps.{role_stopped, role_goes_on}
use Rattle.cfg_assume_role.proofs.sts.provider.AssumeRoleProvider.follow.Goals as goal

pub returns-in-Ok-clause-follows : goal.returns-in-Ok-clause-follows
returns-in-Ok-clause-follows g c = role_goes_on _ c.args.self.now.call _ _ _ _ _ _ _ _ c.in-Ok.ensures.follows c.behind_base.ensures

pub returns-in-Err-clause-follows : goal.returns-in-Err-clause-follows
returns-in-Err-clause-follows g c = role_stopped _ c.args.self.now.call _ _ _ _ _ _ c.in-Err.ensures.follows
