use Rattle.cfg_imds.proofs.WhyNot.{settle_fault, fetch_fault, get_fault}
use Rattle.cfg_imds.proofs.laws.a_metadata_error_has_its_cause.Goals as goal

pub returns-clause-settle : goal.returns-clause-settle
returns-clause-settle c = settle_fault

pub returns-clause-fetch : goal.returns-clause-fetch
returns-clause-fetch c = fetch_fault

pub returns-clause-get : goal.returns-clause-get
returns-clause-get c = get_fault
