use Rattle.cfg_program.proofs.OneList.{one_list}
use Rattle.cfg_program.proofs.laws.calls_have_one_list_of_lines.Goals as goal

pub returns : goal.returns
returns c = λ over lists count form a b lines other. one_list over lists count form a b lines other
