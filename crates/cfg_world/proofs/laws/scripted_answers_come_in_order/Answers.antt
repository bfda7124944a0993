use Rattle.cfg_world.proofs.Ordered.{allowed_in_order, in_order_allowed}
use Rattle.cfg_world.proofs.laws.scripted_answers_come_in_order.Goals as goal

pub returns : goal.returns
returns c = λ script entries. (allowed_in_order script.lists entries, in_order_allowed script.lists entries)
