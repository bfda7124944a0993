use Rattle.cfg_imds_credentials.proofs.ReadSteps.{document_ends}
use Rattle.cfg_imds_credentials.proofs.document.get_document.Goals as goal

pub returns-clause-follows : goal.returns-clause-follows
returns-clause-follows g c = document_ends _ _ _ _ _ _ _ _ _ _ c.in_ok-got.ensures.follows c.in_ok-outcome.ensures
