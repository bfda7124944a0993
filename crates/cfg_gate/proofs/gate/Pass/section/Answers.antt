use Rattle.cfg_gate.proofs.gate.Pass.section.Goals as goal

pub returns-clause-turn : goal.returns-clause-turn
returns-clause-turn g c e = record { answer = c.take_turn-answer.result.0.outcome; outcome_is = c.by_token.ensures; turn = c.take_turn-answer.ensures.turn }
