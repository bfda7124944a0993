use Rattle.cfg_profile.proofs.Later.{last_property, no_property}
use Rattle.cfg_profile.proofs.laws.the_last_value_of_a_key_counts.Goals as goal

pub returns-clause-last : goal.returns-clause-last
returns-clause-last c = last_property

pub returns-clause-none : goal.returns-clause-none
returns-clause-none c = no_property
