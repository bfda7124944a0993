use Rattle.std.proofs.Common.{sym, ap, ◌∙◌, length}
use Rattle.std.specs.Prelude.{◌==◌}
use Rattle.std.proofs.lemmas.Str.{IsUtf8-string_bytes}
use Rattle.cfg_json.proofs.WriterSteps.{empty_next, other_next}
use Rattle.cfg_json.proofs.writer.Written.is_empty.Goals as goal

pub returns-clause-empty : goal.returns-clause-empty
returns-clause-empty c = λ e. empty_next _ c.args.self.now c.self.view_is (ap (λ t. length t == 0) (sym c.as_bytes.ensures.value) ∙ sym c.is_empty.ensures ∙ e)

pub returns-clause-other : goal.returns-clause-other
returns-clause-other c = λ e. other_next _ c.args.self.now (IsUtf8-string_bytes c.self.inside.inner) c.self.view_is (ap (λ t. length t == 0) (sym c.as_bytes.ensures.value) ∙ sym c.is_empty.ensures ∙ e)
