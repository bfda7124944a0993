-- The token, and then the request.
use Rattle.cfg_sso.proofs.SsoSteps.{sso_goes_on, sso_halts}
use Rattle.cfg_sso.proofs.steps.follow_sso.Goals as goal

pub returns-in-Ok-clause-follows : goal.returns-in-Ok-clause-follows
returns-in-Ok-clause-follows g c = sso_goes_on _ c.args.config.now c.args.sso.now _ _ _ _ _ _ _ c.in-Ok.ensures.follows c.behind_token.ensures

pub returns-in-Err-clause-follows : goal.returns-in-Err-clause-follows
returns-in-Err-clause-follows g c = sso_halts _ c.args.config.now c.args.sso.now _ _ _ _ _ c.in-Err.ensures.follows
