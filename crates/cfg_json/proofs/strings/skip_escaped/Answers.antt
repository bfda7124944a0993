use Rattle.std.proofs.Common.{sym}
use Rattle.cfg_json.proofs.StringSteps.{string_skipped}
use Rattle.cfg_json.proofs.strings.skip_escaped.Goals as goal

pub returns : goal.returns
returns c =
    string_skipped c.args.text.now c.in_ok-end.end _ c.in_ok-content.content.now _ c.in_ok-end.ensures.value c.split_at.ensures.front c.in_ok-content.ensures (sym c.if-not-is_content.ensures) c.split_at-2.ensures.back
