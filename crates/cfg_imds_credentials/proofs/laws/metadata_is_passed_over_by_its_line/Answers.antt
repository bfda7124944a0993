use Rattle.cfg_imds_credentials.proofs.Passing.{by_its_line}
use Rattle.cfg_imds_credentials.proofs.laws.metadata_is_passed_over_by_its_line.Goals as goal

pub returns : goal.returns
returns c = by_its_line
