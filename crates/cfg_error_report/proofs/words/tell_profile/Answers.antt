-- The text of this error with its detail.
use Rattle.std.proofs.lemmas.Result.{on_ok_weaker}
use Rattle.cfg_error_report.proofs.Told.{no_profiles_lines}
use Rattle.cfg_error_report.proofs.words.tell_profile.Goals as goal

pub returns-in-NoProfilesDefined : goal.returns-in-NoProfilesDefined
returns-in-NoProfilesDefined c =
    on_ok_weaker c.tell_detailed.result (no_profiles_lines c.args.error.now c.args.causes.now c.tell_detailed.new.self c.args.depth c.in-NoProfilesDefined.is) c.tell_detailed.ensures
