use Rattle.std.proofs.Common.{rules}
use Rattle.cfg_gate.proofs.TurnSteps.{takes_state}
use Rattle.cfg_gate.proofs.steps.take.Goals as goal

pub fetch_add-requires : goal.fetch_add-requires
fetch_add-requires g c = (search rules, search rules, takes_state _ _ _ _ c.args.ticket _ c.requires.turn.0)
