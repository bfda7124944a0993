-- The token of the session, or of the start URL.
use Rattle.cfg_sso.proofs.SsoSteps.{session_has_key, of_session, of_url}
use Rattle.cfg_sso.proofs.steps.sso_token.Goals as goal

pub session_token-requires : goal.session_token-requires
session_token-requires g c = session_has_key c.args.sso.now _ _ c.in-Some.is c.requires

pub returns-in-Some-clause-follows : goal.returns-in-Some-clause-follows
returns-in-Some-clause-follows g c = of_session _ c.args.config.now c.args.sso.now _ _ _ _ _ _ _ c.in-Some.is c.requires c.session_token.ensures.follows

pub returns-in-None-clause-follows : goal.returns-in-None-clause-follows
returns-in-None-clause-follows g c = of_url _ c.args.config.now c.args.sso.now _ _ _ _ c.in-None.is c.url_token.ensures
