-- A section by the settings of the configuration, unless memory ran out before it.
use Rattle.cfg_kept.proofs.HoldingSteps.{holds_breaks_here}
use Rattle.cfg_login.proofs.SignInSteps.{session_told}
use Rattle.cfg_login.proofs.section.section.Goals as goal

pub returns-in-Ok-clause-follows : goal.returns-in-Ok-clause-follows
returns-in-Ok-clause-follows g c = session_told _ c.args.config.now c.args.session.now _ _ _ _ _ _ _ _ c.requires c.env.ensures c.in-Ok.ensures c.login_section.ensures.follows

pub returns-in-Err-clause-follows : goal.returns-in-Err-clause-follows
returns-in-Err-clause-follows g c = holds_breaks_here
