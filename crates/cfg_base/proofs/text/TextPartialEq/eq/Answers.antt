use Rattle.std.proofs.Common.{◌∙◌}
use Rattle.std.specs.Prelude.{nat_eq}
use Rattle.std.specs.Cmp.Lexicographic.{pointwise}
use Rattle.std.proofs.lemmas.Str.{IsUtf8-string_bytes}
use Rattle.cfg_base.proofs.TextLemmas.{text_eq}
use Rattle.cfg_base.proofs.text.TextPartialEq.eq.Goals as goal

pub returns : goal.returns
returns c =
    c.eq.ensures ∙ text_eq _ _ (IsUtf8-string_bytes c.self.inside.inner) (IsUtf8-string_bytes c.other.inside.inner)
    ∙ (λ i. pointwise nat_eq (c.self.view_is i) (c.other.view_is i))
