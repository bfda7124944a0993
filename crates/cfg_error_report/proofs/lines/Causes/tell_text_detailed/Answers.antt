-- The detail stands behind the text.
use Rattle.std.proofs.Common.{◌≡◌, List, [], ◌∷◌, OnOk, string_bytes, subst}
use Rattle.cfg_error_report.specs.Lines.{Line, detail_line, cause_line}
use Rattle.cfg_error_report.proofs.Told.{behind_first}
use Rattle.cfg_error_report.proofs.lines.Causes.tell_text_detailed.Goals as goal

pub returns : goal.returns
returns c =
    subst (λ (l : List Line). OnOk c.tell_detail.result (c.tell_detail.new.self ≡ l))
    (behind_first c.args.self.now c.tell_text.new.self (detail_line c.args.depth c.args.detail.now ∷ []) (cause_line c.args.depth (string_bytes c.args.text)) c.in_ok-tell_text.ensures)
    c.tell_detail.ensures
