use Rattle.cfg_providers.proofs.WebIdentityCauses.{assumed_cause, web_identity_cause}
use Rattle.cfg_providers.proofs.laws.web_identity_fails_by_its_last_entry.Goals as goal

pub returns-clause-given : goal.returns-clause-given
returns-clause-given c = web_identity_cause

pub returns-clause-identity : goal.returns-clause-identity
returns-clause-identity c = λ conf base identity policies part out. assumed_cause conf identity policies base part out
