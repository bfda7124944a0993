-- The failure is counted.
use Rattle.cfg_world.proofs.Tallied.{any_failed}
use Rattle.cfg_world.proofs.local.LocalDevicesDevices.run.Goals as goal

pub returns-clause-asked : goal.returns-clause-asked
returns-clause-asked g c = any_failed _ _ c.self.inside.faults _ c.self.view_is c.raise_commands.ensures.raised c.raise_commands.ensures.small tt
