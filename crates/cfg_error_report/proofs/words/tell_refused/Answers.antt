-- What it was refused for stands behind the refusal.
use Rattle.std.proofs.Common.{◌≡◌, List, OnOk, subst}
use Rattle.cfg_types.specs.ProviderTexts.{provider_text}
use Rattle.cfg_error_report.specs.Lines.{Line, cause_line}
use Rattle.cfg_error_report.specs.Words.{refusal_lines}
use Rattle.cfg_error_report.proofs.Told.{behind_first}
use Rattle.cfg_error_report.proofs.words.tell_refused.Goals as goal

pub returns : goal.returns
returns c =
    subst (λ (l : List Line). OnOk c.tell_refusal.result (c.tell_refusal.new.causes ≡ l))
    (behind_first c.args.causes.now c.tell.new.self (refusal_lines c.args.kind c.args.depth) (cause_line c.args.depth (provider_text c.args.cause.now)) c.in_ok-tell.ensures)
    c.tell_refusal.ensures
