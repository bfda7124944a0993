use Rattle.cfg_program.proofs.CachedOnce.{one_cached_list}
use Rattle.cfg_program.proofs.laws.one_script_has_one_list_of_cached_lines.Goals as goal

pub returns : goal.returns
returns c = λ sources script a b lines other. one_cached_list sources script a b lines other
