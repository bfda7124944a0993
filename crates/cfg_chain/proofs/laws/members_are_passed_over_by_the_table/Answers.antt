use Rattle.cfg_chain.proofs.PassedByTable.{by_table}
use Rattle.cfg_chain.proofs.laws.members_are_passed_over_by_the_table.Goals as goal

pub returns : goal.returns
returns c = by_table
