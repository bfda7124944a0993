use Rattle.cfg_imds_credentials.proofs.Reasons.{has_cause}
use Rattle.cfg_imds_credentials.proofs.laws.an_answer_of_metadata_has_its_cause.Goals as goal

pub returns : goal.returns
returns c = has_cause
