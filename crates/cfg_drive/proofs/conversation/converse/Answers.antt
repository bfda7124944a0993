-- The first line configures the call.
use Rattle.std.proofs.lemmas.Result.{MatchResult-weaker}
use Rattle.cfg_drive.proofs.Exchanging.{match_err}
use Rattle.cfg_drive.proofs.Telling.{stops_line, stops_configured, tells, stops_behind}
use Rattle.cfg_drive.proofs.conversation.converse.Goals as goal

pub returns-in_err-first-clause-ends : goal.returns-in_err-first-clause-ends
returns-in_err-first-clause-ends g c =
    match_err _ c.in_err-first.field-0.0 _ _ c.from_residual.ensures.1 (stops_line _ _ _ c.in_err-first.field-0.0 c.in_err-first.ensures.line)

pub returns-in_err-script-clause-ends : goal.returns-in_err-script-clause-ends
returns-in_err-script-clause-ends g c =
    match_err _ c.in_err-script.field-0.0 _ _ c.from_residual-in_err-script.ensures.1
    (stops_configured _ _ _ _ c.in_err-script.field-0.0 c.in_ok-first.ensures.line (rw c.as_slice.ensures.value at c.in_err-script.ensures))

pub returns-clause-ends : goal.returns-clause-ends
returns-clause-ends g c =
    let read = c.in_ok-first.ensures.line in
    let configured = rw c.as_slice.ensures.value at c.in_ok-script.ensures in
    MatchResult-weaker c.converse_with.result c.converse_with.ensures.ends
    (λ b t. tells _ _ _ _ _ _ _ _ _ b read configured t)
    (λ s t. stops_behind _ _ _ _ _ _ _ _ _ s read configured c.next_line.ensures.counted t)
