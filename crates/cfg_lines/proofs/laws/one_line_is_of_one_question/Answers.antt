-- One line is one text, which reads as one value, and a value tells one question.
use Rattle.std.proofs.Common.{sym, ap, ◌∙◌, codes}
use Rattle.std.proofs.lemmas.List.{append_cancel_right}
use Rattle.std.proofs.lemmas.Option.{same_Some}
use Rattle.serde_json.specs.Read.{read}
use Rattle.cfg_lines.proofs.Told.{one_question}
use Rattle.cfg_lines.proofs.laws.one_line_is_of_one_question.Goals as goal

pub returns : goal.returns
returns c = λ line one other p q.
    let text = append_cancel_right p.text q.text (codes "\n") (sym p.ends ∙ q.ends) in
    one_question one other p.bytes q.bytes (same_Some _ _ (sym p.reads ∙ ap read text ∙ q.reads))
