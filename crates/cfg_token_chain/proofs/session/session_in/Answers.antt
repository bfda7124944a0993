-- The path that was walked is the only one.
use Rattle.std.proofs.Common.{◌∙◌, sym}
use Rattle.cfg_token_chain.proofs.OneSession.{session_is, refused}
use Rattle.cfg_token_chain.proofs.session.session_in.Goals as goal

pub returns-in_ok-session-in-Ok : goal.returns-in_ok-session-in-Ok
returns-in_ok-session-in-Ok c = session_is c.args.set.now c.args.name.now _ c.in-Ok.ensures ∙ sym c.in_ok-session-in-Ok.ensures

pub returns-in_default : goal.returns-in_default
returns-in_default c = refused c.args.set.now c.args.name.now c.in-Err.error c.in_default.not-OutOfMemory c.in-Err.ensures
