-- The lines of the entries, and behind them the call's.
use Rattle.std.proofs.Common.{◌++◌, ap, ◌∙◌}
use Rattle.cfg_program.specs.Explained.{entry_lines}
use Rattle.cfg_program.specs.Lines.{shown}
use Rattle.cfg_program.proofs.explain.explained.Goals as goal

pub returns : goal.returns
returns g c = record {
  members = c.in_ok-members.members;
  asked = c.in_ok-members.ensures;
  credentials = c.in_ok-is_ok.ensures.credentials;
  shows =
      c.in_ok-is_ok.ensures.line
      ∙ ap (λ l. l ++ shown c.args.outcome.now c.args.journal.now) (c.in_ok-write_entries.ensures ∙ ap (λ m. c.new-lines.result.items ++ entry_lines 1 c.args.journal.now m) c.as_slice.ensures ∙ ap (λ n. n ++ entry_lines 1 c.args.journal.now c.in_ok-members.members) c.new-lines.ensures.items);
}
