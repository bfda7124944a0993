use Rattle.std.proofs.Common.{rules}
use Rattle.cfg_gate.proofs.TurnSteps.{joins}
use Rattle.cfg_gate.proofs.places.put_together.Goals as goal

pub join_seat-requires : goal.join_seat-requires
join_seat-requires g c = (search rules, search rules, c.requires.other_idle.1, search rules, joins _ _ _ _ _ _ c.requires.idle.0 c.requires.other_idle.0)
