use Rattle.cfg_providers.proofs.ProcessCauses.{process_cause}
use Rattle.cfg_providers.proofs.laws.a_process_fails_by_its_last_entry.Goals as goal

pub returns : goal.returns
returns c = process_cause
