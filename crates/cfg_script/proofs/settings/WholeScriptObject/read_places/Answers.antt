use Rattle.cfg_script.specs.Script.{plain}
use Rattle.cfg_script.specs.Settings.{plain_in}
use Rattle.cfg_script.proofs.Placing.{placed}
use Rattle.cfg_script.proofs.settings.WholeScriptObject.read_places.Goals as goal

pub returns : goal.returns
returns c = placed plain_in _ _ (plain c.script_by.result) c.in_ok-rows.ensures c.script_by.ensures
