use Rattle.cfg_chain.specs.Settings.{alone}
use Rattle.cfg_program.specs.Generated.{generated_configuration, generated_lists}
use Rattle.cfg_program.specs.declared.lines.LineForm.TheVariants.{Generated}
use Rattle.cfg_program.proofs.OneList.{one_list}
use Rattle.cfg_program.proofs.laws.one_number_has_one_line.Goals as goal

pub returns : goal.returns
returns c = λ n a b line other. one_list (alone (generated_configuration n)) (generated_lists n) 1 (Generated n) a b line other
