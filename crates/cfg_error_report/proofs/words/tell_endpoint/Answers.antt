-- Whether the scheme is missing stands behind the address.
use Rattle.std.proofs.Common.{◌≡◌, List, OnOk, [], ◌∷◌, ◌++◌, ap, ◌∙◌, subst, ℕ}
use Rattle.cfg_error_report.specs.Lines.{Line, cause_line}
use Rattle.cfg_error_report.specs.Words.{endpoint_words, scheme_lines}
use Rattle.cfg_error_report.proofs.Told.{behind_first}
use Rattle.cfg_error_report.proofs.words.tell_endpoint.Goals as goal

pub returns : goal.returns
returns c =
    let told = c.in_ok-tell_text.ensures ∙ ap (λ (text : List ℕ). c.args.causes.now ++ cause_line c.args.depth text ∷ []) c.in_ok-words.ensures in
    subst (λ (l : List Line). OnOk c.tell_scheme.result (c.tell_scheme.new.causes ≡ l))
    (behind_first c.args.causes.now c.tell_text.new.self (scheme_lines c.args.address.now c.args.depth) (cause_line c.args.depth (endpoint_words c.args.address.now)) told)
    c.tell_scheme.ensures
