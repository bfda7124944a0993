use Rattle.std.proofs.Common.{rules}
use Rattle.cfg_gate.proofs.TurnSteps.{adds}
use Rattle.cfg_gate.proofs.steps.count.Goals as goal

pub fetch_add-requires : goal.fetch_add-requires
fetch_add-requires g c = (search rules, search rules, adds _ _ _ _ c.args.ticket _ _ c.requires.holds.0 c.requires.holds.1)
