use Rattle.std.proofs.Common.{refl}
use Rattle.cfg_gate.proofs.FoundSections.{with_numbers}
use Rattle.cfg_gate.proofs.calls.call.Goals as goal

pub returns-clause-turn : goal.returns-clause-turn
returns-clause-turn g c = with_numbers _ _ c.take_turn-answer.ensures.turn refl c.seen-seen.ensures
