use Rattle.std.proofs.Common.{◌∙◌}
use Rattle.std.specs.Prelude.{nat_eq}
use Rattle.std.specs.Cmp.Lexicographic.{pointwise}
use Rattle.std.proofs.lemmas.Str.{IsUtf8-string_bytes}
use Rattle.cfg_base.specs.Text.{characters}
use Rattle.cfg_base.proofs.TextLemmas.{text_eq}
use Rattle.cfg_base.proofs.text.Text.is.Goals as goal

pub returns : goal.returns
returns c =
    c.eq.ensures ∙ (λ i. pointwise nat_eq (c.as_str.ensures.value i) c.args.text.now)
    ∙ text_eq _ _ (IsUtf8-string_bytes c.self.inside.inner) c.utf8.text
    ∙ (λ i. pointwise nat_eq (c.self.view_is i) (characters c.args.text.now))
