use Rattle.std.proofs.Common.{rules}
use Rattle.cfg_kept.proofs.OneHolding.{nothing_held}
use Rattle.cfg_kept.proofs.MetadataSteps.{token_held, token_halted}
use Rattle.cfg_kept.proofs.metadata.hold_token.Goals as goal

pub returns-in_err-note_token : goal.returns-in_err-note_token
returns-in_err-note_token g c = nothing_held _ _ _ _ _ _ _ _ (search rules) (search rules) (search rules)

pub returns-in_err-outcome : goal.returns-in_err-outcome
returns-in_err-outcome g c = token_halted _ _ _ _ _ _ _ _ _ _ _ (search rules) (search rules) (search rules) c.in_err-outcome.ensures.follows

pub returns : goal.returns
returns g c = token_held _ _ _ _ _ _ _ _ _ _ (search rules) c.in_ok-outcome.ensures.follows
