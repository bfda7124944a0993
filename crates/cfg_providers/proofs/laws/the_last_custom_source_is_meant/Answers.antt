use Rattle.cfg_providers.proofs.CustomNames.{named_in_any_case, named_later, named_is_known}
use Rattle.cfg_providers.proofs.laws.the_last_custom_source_is_meant.Goals as goal

pub returns-clause-any_case : goal.returns-clause-any_case
returns-clause-any_case c = named_in_any_case

pub returns-clause-later : goal.returns-clause-later
returns-clause-later c = named_later

pub returns-clause-known : goal.returns-clause-known
returns-clause-known c = named_is_known
