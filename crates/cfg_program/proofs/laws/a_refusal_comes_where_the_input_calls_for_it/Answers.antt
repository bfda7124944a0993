use Rattle.cfg_program.proofs.Excluded.{comes_where_called_for}
use Rattle.cfg_program.proofs.laws.a_refusal_comes_where_the_input_calls_for_it.Goals as goal

pub returns : goal.returns
returns c = λ seen handed command cause ended. comes_where_called_for handed seen command cause ended
