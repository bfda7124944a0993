-- A question has one value, which has one text.
use Rattle.std.proofs.Common.{◌++◌, sym, ap, ◌∙◌, codes}
use Rattle.cfg_lines.proofs.laws.one_question_has_one_line.Goals as goal

pub returns : goal.returns
returns c = λ asked one other p q. p.ends ∙ ap (λ text. text ++ codes "\n") (p.compact ∙ sym q.compact) ∙ sym q.ends
