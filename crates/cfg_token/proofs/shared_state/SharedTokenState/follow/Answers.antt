-- What was made is the answer.
use Rattle.std.proofs.Common.{rules}
use Rattle.cfg_token.proofs.SharedSteps.{finds_answers, finds_stops}
use Rattle.cfg_token.proofs.shared_state.SharedTokenState.follow.Goals as goal

pub returns-in_err-made : goal.returns-in_err-made
returns-in_err-made g c = finds_stops g.T.FileToken.rules g.A.Asking _ _ _ _ _ _ _ _ _ (search rules) c.in_err-made.ensures

pub returns : goal.returns
returns g c = finds_answers g.T.FileToken.rules g.A.Asking _ _ _ _ _ _ _ c.in_ok-made.made _ c.answer.ensures c.in_ok-made.ensures
