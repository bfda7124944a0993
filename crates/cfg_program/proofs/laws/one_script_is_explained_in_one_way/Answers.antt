use Rattle.cfg_program.proofs.Explaining.{one_explanation}
use Rattle.cfg_program.proofs.laws.one_script_is_explained_in_one_way.Goals as goal

pub returns : goal.returns
returns c = λ sources script a b lines other. one_explanation sources script a b lines other
