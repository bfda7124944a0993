use Rattle.cfg_script.specs.Settings.{lists_in}
use Rattle.cfg_script.proofs.Placing.{placed}
use Rattle.cfg_script.proofs.settings.DevicesObject.read_places.Goals as goal

pub returns : goal.returns
returns c = placed lists_in _ _ c.lists.result c.in_ok-rows.ensures c.lists.ensures
