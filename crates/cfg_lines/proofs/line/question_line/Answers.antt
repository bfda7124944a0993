-- The value reads back, since it is shallow, and its text is the compact one, since it has no floats.
use Rattle.std.proofs.Common.{◌≡◌, ◌∙◌, sym, ap, subst, Some, All, rules}
use Rattle.serde_json.specs.Read.{max_depth}
use Rattle.serde_json.specs.View.{view}
use Rattle.serde_json.specs.Written.{compact_text}
use Rattle.cfg_lines.specs.Questions.{question_value}
use Rattle.cfg_lines.proofs.Members.{IsPlain}
use Rattle.cfg_lines.proofs.Depths.{is_plain}
use Rattle.cfg_lines.proofs.OneLine.{IsOther, one_line}
use Rattle.cfg_lines.proofs.line.question_line.Goals as goal

pub returns : goal.returns
returns c =
    let value : view c.in_ok-value.value ≡ question_value c.args.question.now = c.in_ok-value.ensures.value in
    let plain : IsPlain max_depth (view c.in_ok-value.value) = subst (IsPlain max_depth) (sym value) (is_plain c.args.question.now) in
    let text = c.in_ok-line.ensures.text plain.1 in
    record {
      text = c.in_ok-line.line.items;
      ends = search rules;
      compact = text ∙ ap compact_text value;
      one_line = subst (All IsOther) (sym text) (one_line (view c.in_ok-value.value));
      reads = c.in_ok-line.ensures.reads_back plain.0 ∙ ap Some value;
      bytes = c.in_ok-value.ensures.bytes;
    }
