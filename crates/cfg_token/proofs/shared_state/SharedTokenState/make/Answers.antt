-- A section is its first reading and what follows that.
use Rattle.cfg_token.proofs.SharedSteps.{finds_halted_first, finds_follows}
use Rattle.cfg_token.proofs.shared_state.SharedTokenState.make.Goals as goal

pub returns-in-Err : goal.returns-in-Err
returns-in-Err g c = finds_halted_first g.T.FileToken.rules g.A.Asking _ _ _ _ _ _ _ c.in-Err.stop c.in-Err.ensures

pub returns-in-Ok : goal.returns-in-Ok
returns-in-Ok g c = finds_follows g.T.FileToken.rules g.A.Asking _ _ _ _ _ _ c.in-Ok.first _ _ _ c.in-Ok.ensures c.make_after.ensures
