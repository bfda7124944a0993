-- The published token is handed out, or the loads are asked.
use Rattle.std.proofs.Common.{rules}
use Rattle.cfg_token.proofs.SharedSteps.{finds_broken, finds_hit}
use Rattle.cfg_token.proofs.shared_state.SharedTokenState.make_after.Goals as goal

pub returns-in_err-handed : goal.returns-in_err-handed
returns-in_err-handed g c = finds_broken g.T.FileToken.rules g.A.Asking _ _ _ _ _ _ _ _ (search rules)

pub returns-in-Some : goal.returns-in-Some
returns-in-Some g c = finds_hit g.T.FileToken.rules g.A.Asking _ _ _ _ _ _ _ _ c.requires.clock (search rules)
