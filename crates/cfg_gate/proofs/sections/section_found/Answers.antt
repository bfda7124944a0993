use Rattle.cfg_gate.proofs.FoundSections.{answers_turn, asks_nothing}
use Rattle.cfg_gate.proofs.sections.section_found.Goals as goal

pub returns-in_default-clause-turn : goal.returns-in_default-clause-turn
returns-in_default-clause-turn g c = asks_nothing c.args.loads.now c.records-records.ensures.history c.out_of_memory.ensures

pub returns-clause-turn : goal.returns-clause-turn
returns-clause-turn g c =
    answers_turn g.T.FileToken.rules c.args.loads.now c.section_on-outcome.new.loads c.records-records.ensures.history
    c.in-Ok.ensures.is c.carries_receipts.ensures c.in-Ok.ensures.token c.last_attempt-last.ensures c.section_on-outcome.ensures.finished c.section_on-outcome.ensures.stopped
