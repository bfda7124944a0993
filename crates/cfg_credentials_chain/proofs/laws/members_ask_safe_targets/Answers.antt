use Rattle.cfg_credentials_chain.proofs.SafeCalls.{part_is_safe, beginning_is_safe}
use Rattle.cfg_credentials_chain.proofs.laws.members_ask_safe_targets.Goals as goal

pub returns-clause-whole : goal.returns-clause-whole
returns-clause-whole c = part_is_safe

pub returns-clause-begun : goal.returns-clause-begun
returns-clause-begun c = beginning_is_safe
