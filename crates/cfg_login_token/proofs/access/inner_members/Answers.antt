use Rattle.cfg_login_token.proofs.Inner.{ok_members}
use Rattle.cfg_login_token.proofs.access.inner_members.Goals as goal

pub returns-in-Ok : goal.returns-in-Ok
returns-in-Ok c = ok_members c.args.text.now c.in-Ok.members c.in-Ok.ensures.found.0 c.in-Ok.ensures.found.1
