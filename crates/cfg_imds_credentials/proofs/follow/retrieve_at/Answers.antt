-- The document was there, and then it was dated.
use Rattle.cfg_imds_credentials.proofs.ReadSteps.{retrieves_at_ends}
use Rattle.cfg_imds_credentials.proofs.follow.retrieve_at.Goals as goal

pub returns-clause-follows : goal.returns-clause-follows
returns-clause-follows g c =
    let document = rw c.in-Ok.is at c.in_ok-document.ensures.follows in
    retrieves_at_ends _ _ _ _ _ _ _ _ _ _ _ document c.in_ok-outcome.ensures
