-- What was found is what the locked loads keep.
use Rattle.std.proofs.Common.{rules}
use Rattle.cfg_token.proofs.SharedSteps.{finds_broken, finds_stopped, finds_locked}
use Rattle.cfg_token.proofs.shared_state.SharedTokenState.make_on.Goals as goal

pub returns-in_err-finding-clause-found : goal.returns-in_err-finding-clause-found
returns-in_err-finding-clause-found g c = finds_broken g.T.FileToken.rules g.A.Asking _ _ _ _ _ _ _ _ (search rules)

pub returns-in_err-made-clause-found : goal.returns-in_err-made-clause-found
returns-in_err-made-clause-found g c =
    finds_stopped g.T.FileToken.rules g.A.Asking _ _ _ _ _ _ c.args.loads.now _ _ _ c.in_ok-finding.ensures.load c.in_ok-finding.ensures.last _ _ (search rules) c.in_err-made.ensures

pub returns-clause-found : goal.returns-clause-found
returns-clause-found g c = finds_locked g.T.FileToken.rules g.A.Asking _ _ _ _ _ _ c.args.loads.now _ _ _ c.in_ok-finding.ensures.load c.in_ok-finding.ensures.last _ c.in_ok-made.ensures
