-- The value reads back, since it is shallow, and its text is the compact one, since it has no floats.
use Rattle.std.proofs.Common.{sym, subst, All, rules}
use Rattle.serde_json.specs.View.{view}
use Rattle.cfg_lines.proofs.OneLine.{IsOther, one_line}
use Rattle.cfg_drive.proofs.outcome.json_line.Goals as goal

pub returns : goal.returns
returns c =
    let text = c.in_ok-line.ensures.text c.requires.no_float in
    record {
      text = c.in_ok-line.line.items;
      ends = search rules;
      one_line = subst (All IsOther) (sym text) (one_line (view c.args.value.now));
      reads = c.in_ok-line.ensures.reads_back c.requires.shallow;
    }
