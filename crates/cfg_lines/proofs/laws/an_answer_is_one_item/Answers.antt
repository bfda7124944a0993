-- By the counts of the lists.
use Rattle.cfg_lines.proofs.Alone.{one_item_alone}
use Rattle.cfg_lines.proofs.laws.an_answer_is_one_item.Goals as goal

pub returns : goal.returns
returns c = one_item_alone
