-- A text where the bytes are UTF-8, and else their digits.
use Rattle.std.proofs.Common.{codes, Some, sym, ap, ap₂, ◌∙◌}
use Rattle.serde_json.specs.Data.{string, object}
use Rattle.cfg_lines.specs.Members.{put_or_keep}
use Rattle.cfg_lines.proofs.Contents.{as_text, as_digits}
use Rattle.cfg_lines.proofs.values.content.Goals as goal

pub returns-in_ok-try_from_str-in-Ok-clause-value : goal.returns-in_ok-try_from_str-in-Ok-clause-value
returns-in_ok-try_from_str-in-Ok-clause-value c =
    c.in_ok-try_from_str-in-Ok.ensures ∙ ap string c.in-Ok.ensures.cases.0 ∙ sym (as_text c.args.bytes.now c.in-Ok.ensures.cases.1)

pub returns-in_ok-fields-in-Err-clause-value : goal.returns-in_ok-fields-in-Err-clause-value
unfolding put_or_keep
returns-in_ok-fields-in-Err-clause-value c =
    c.into_value.ensures
    ∙ ap object (c.in_ok-fields-in-Err.ensures
    ∙ ap₂ (λ d ms. put_or_keep (codes "hex") (Some d) ms) (c.from.ensures ∙ ap string c.in_ok-digits-in-Err.ensures) c.new.ensures)
    ∙ sym (as_digits c.args.bytes.now c.in-Err.ensures.cases.0)
