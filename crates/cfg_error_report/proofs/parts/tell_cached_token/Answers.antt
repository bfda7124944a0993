-- The text of this error with its detail.
use Rattle.std.proofs.lemmas.Result.{on_ok_weaker}
use Rattle.cfg_error_report.proofs.Told.{home_lines}
use Rattle.cfg_error_report.proofs.parts.tell_cached_token.Goals as goal

pub returns-in-NoHomeDirectory : goal.returns-in-NoHomeDirectory
returns-in-NoHomeDirectory c =
    on_ok_weaker c.tell_detailed.result (home_lines c.args.error.now c.args.causes.now c.tell_detailed.new.self c.args.depth c.in-NoHomeDirectory.is) c.tell_detailed.ensures
