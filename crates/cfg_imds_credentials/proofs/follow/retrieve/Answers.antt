-- The path was known, and then the role's keys were retrieved there.
use Rattle.cfg_imds_credentials.proofs.ReadSteps.{retrieves_ends}
use Rattle.cfg_imds_credentials.proofs.follow.retrieve.Goals as goal

pub returns-clause-follows : goal.returns-clause-follows
returns-clause-follows g c =
    let path = rw c.in-Ok.is at c.in_ok-path.ensures.follows in
    retrieves_ends _ _ _ _ _ _ _ _ _ _ _ _ _ path c.as_str.ensures.value c.in_ok-outcome.ensures.follows
