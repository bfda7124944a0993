use Rattle.cfg_profile.proofs.KnownSources.{known_by_bytes, known_in_any_case}
use Rattle.cfg_profile.proofs.laws.named_sources_are_known_in_any_case.Goals as goal

pub returns-clause-bytes : goal.returns-clause-bytes
returns-clause-bytes c = known_by_bytes

pub returns-clause-case : goal.returns-clause-case
returns-clause-case c = known_in_any_case
