use Rattle.std.proofs.Common.{length, ap, arith}
use Rattle.cfg_gate.proofs.FoundSections.{with_numbers}
use Rattle.cfg_gate.proofs.sections.counted_section.Goals as goal

pub returns-clause-turn : goal.returns-clause-turn
returns-clause-turn g c =
    let is = ap length c.records.ensures.is in
    let more = c.section_found-answer.ensures.most.0 in
    let found = c.requires.found in
    with_numbers _ _ c.section_found-answer.ensures.turn found (omega arith)
