use Rattle.cfg_kept.proofs.SectionSteps.{trimmed_keeps}
use Rattle.cfg_kept.proofs.laws.records_are_not_found.Goals as goal

pub returns : goal.returns
returns g c = λ history. trimmed_keeps history
