-- The failure of its own is counted.
use Rattle.cfg_world.proofs.OneFails.{failed_here}
use Rattle.cfg_world.proofs.faulty.FaultDevicesDevices.read.Goals as goal

pub returns-then-is_due-clause-asked : goal.returns-then-is_due-clause-asked
returns-then-is_due-clause-asked g c =
    failed_here g.D.Devices c.args.self.now c.is_due.new.self c.self.inside.inner c.self.inside.at c.self.inside.calls c.self.inside.own _ _
    c.self.view_is c.is_due.ensures.counted c.raise_files.ensures.raised c.raise_files.ensures.small tt
