use Rattle.std.proofs.Common.{refl}
use Rattle.caller.proofs.Counting.{counted_failure}
use Rattle.caller.proofs.devices.OneFileDevices.look_up.Goals as goal

pub returns : goal.returns
returns c = counted_failure _ _ _ _ _ _ c.fail.ensures.fails c.fail.ensures.counts c.fail.ensures.rises tt refl
