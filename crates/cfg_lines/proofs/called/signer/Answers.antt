-- Each member was put behind those before it.
use Rattle.std.proofs.Common.{codes, Some, ap, ap₂, ◌∙◌}
use Rattle.serde_json.specs.Data.{object, string}
use Rattle.cfg_lines.specs.Members.{put_or_keep, object_with, text_value}
use Rattle.cfg_lines.specs.Questions.{signer_value}
use Rattle.cfg_lines.proofs.called.signer.Goals as goal

pub returns : goal.returns
unfolding object_with text_value signer_value
returns c =
    c.into_value.ensures
    ∙ ap object (
    c.in_ok-with_token.ensures
    ∙ ap (put_or_keep _ _) (
    c.in_ok-fields.ensures
    ∙ ap₂ (λ t ms. put_or_keep (codes "secret") (Some (string t)) ms) c.secret_access_key.ensures.bytes (
    c.in_ok-word.ensures
    ∙ ap₂ (λ t ms. put_or_keep (codes "id") (Some (string t)) ms) c.access_key_id.ensures.bytes c.new.ensures)))
