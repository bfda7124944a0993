use Rattle.std.proofs.Common.{rules}
use Rattle.cfg_gate.proofs.TurnSteps.{passes}
use Rattle.cfg_gate.proofs.steps.pass_on.Goals as goal

pub fetch_add-requires : goal.fetch_add-requires
fetch_add-requires g c = (search rules, search rules, passes _ _ _ _ c.args.ticket _ c.requires.added.0 c.requires.added.1)
