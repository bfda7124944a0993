-- What the section gave is told.
use Rattle.cfg_sso.proofs.SsoSteps.{session_ends, session_halts}
use Rattle.cfg_sso.proofs.section.session_token.Goals as goal

pub returns-in-Ok-clause-follows : goal.returns-in-Ok-clause-follows
returns-in-Ok-clause-follows g c = session_ends _ c.args.config.now _ _ _ _ _ _ _ c.of_section.ensures c.in-Ok.ensures.follows

pub returns-in-Err-clause-follows : goal.returns-in-Err-clause-follows
returns-in-Err-clause-follows g c = session_halts _ c.args.config.now _ _ _ _ _ _ c.in-Err.ensures.follows
