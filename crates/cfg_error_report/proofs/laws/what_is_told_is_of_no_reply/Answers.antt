use Rattle.std.proofs.Common.{ap}
use Rattle.cfg_error_report.specs.Lines.{Telling}
use Rattle.cfg_error_report.proofs.BlankCauses.{blank_lines}
use Rattle.cfg_error_report.proofs.laws.what_is_told_is_of_no_reply.Goals as goal

pub returns : goal.returns
returns c = λ error. ap (λ (t : Telling). t 0) (blank_lines error)
