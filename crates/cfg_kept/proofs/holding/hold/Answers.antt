use Rattle.std.proofs.Common.{rules}
use Rattle.cfg_kept.proofs.OneHolding.{nothing_held}
use Rattle.cfg_kept.proofs.SectionSteps.{section_held, section_halted}
use Rattle.cfg_kept.proofs.holding.hold.Goals as goal

pub returns-in_err-note_found-clause-one : goal.returns-in_err-note_found-clause-one
returns-in_err-note_found-clause-one g c = nothing_held _ _ _ _ _ _ _ _ (search rules) (search rules) (search rules)

pub returns-in_err-answer-clause-one : goal.returns-in_err-answer-clause-one
returns-in_err-answer-clause-one g c =
    section_halted g.T.FileToken.rules g.T.KeptToken.spot g.met.T.KeptToken.is_spot _ _ _ _ _ _ _ _ _ _ _ _ (search rules) c.in_err-answer.ensures.answers.history (search rules) c.in_err-answer.ensures.answers.halts

pub returns-clause-one : goal.returns-clause-one
returns-clause-one g c =
    let a = c.in_ok-answer.ensures.answers in
    section_held g.T.FileToken.rules g.T.KeptToken.spot g.met.T.KeptToken.is_spot _ _ _ _ _ _ _ _ _ _ _ _ a.answers (search rules) a.ends
