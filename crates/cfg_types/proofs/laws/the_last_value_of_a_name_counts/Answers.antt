use Rattle.cfg_base.proofs.LastNames.{last_is_set, no_name_no_value}
use Rattle.cfg_types.proofs.laws.the_last_value_of_a_name_counts.Goals as goal

pub returns-clause-set : goal.returns-clause-set
returns-clause-set c = last_is_set

pub returns-clause-unset : goal.returns-clause-unset
returns-clause-unset c = no_name_no_value
