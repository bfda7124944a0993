use Rattle.cfg_script.specs.Devices.{lists_of}
use Rattle.cfg_chain.specs.Settings.{with_sources}
use Rattle.cfg_program.specs.Calls.{configuration_of}
use Rattle.cfg_program.proofs.OneList.{one_list}
use Rattle.cfg_program.proofs.laws.one_script_has_one_list_of_lines.Goals as goal

pub returns : goal.returns
returns c = λ sources form script a b lines other. one_list (with_sources (configuration_of script) sources) (lists_of script) script.calls form a b lines other
