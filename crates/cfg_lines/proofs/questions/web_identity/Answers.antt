-- Each member was put behind those before it.
use Rattle.std.proofs.Common.{codes, Some, ap, ap₂, ◌∙◌}
use Rattle.serde_json.specs.Data.{object}
use Rattle.cfg_lines.specs.Members.{put_or_keep, object_with}
use Rattle.cfg_lines.proofs.questions.web_identity.Goals as goal

pub returns : goal.returns
unfolding object_with
returns c =
    c.into_value.ensures
    ∙ ap object (
    c.in_ok-fields.ensures
    ∙ ap₂ (λ d ms. put_or_keep (codes "settings") (Some d) ms) c.in_ok-settings.ensures (
    c.in_ok-texts_or_none.ensures
    ∙ ap (put_or_keep _ _) (
    c.in_ok-text_or_none.ensures
    ∙ ap (put_or_keep _ _) (
    c.in_ok-text-3.ensures
    ∙ ap (put_or_keep _ _) (
    c.in_ok-text-2.ensures
    ∙ ap (put_or_keep _ _) (
    c.in_ok-text.ensures
    ∙ ap (put_or_keep _ _) (
    c.in_ok-asking.ensures)))))))
