-- What is kept was found; memory may run out before it, or behind it.
use Rattle.std.proofs.Common.{rules, refl}
use Rattle.cfg_kept.proofs.OneHolding.{holds_found}
use Rattle.cfg_imds_credentials.proofs.Found.{nothing_found, found_breaks}
use Rattle.cfg_imds_credentials.proofs.follow.answer_refusal.Goals as goal

pub returns-in_err-kept-clause-follows : goal.returns-in_err-kept-clause-follows
returns-in_err-kept-clause-follows g c = nothing_found _ _ _ _ _ _ (search rules) c.in_err-kept.ensures.stays

pub returns-in_err-outcome-clause-follows : goal.returns-in_err-outcome-clause-follows
returns-in_err-outcome-clause-follows g c = found_breaks _ _ _ _ _ _ _ _ (search rules) refl c.in_ok-kept.ensures.found

pub returns-clause-follows : goal.returns-clause-follows
returns-clause-follows g c = holds_found _ _ _ _ _ _ _ _ refl c.in_ok-kept.ensures.found c.in_ok-outcome.ensures
