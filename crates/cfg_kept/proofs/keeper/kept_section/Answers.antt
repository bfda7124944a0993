use Rattle.cfg_kept.proofs.OneHolding.{ended_breaks}
use Rattle.cfg_kept.proofs.SectionSteps.{answered_stays}
use Rattle.cfg_kept.proofs.keeper.kept_section.Goals as goal

pub returns-in-Ok-clause-stopped : goal.returns-in-Ok-clause-stopped
returns-in-Ok-clause-stopped g c = λ memory. ended_breaks _ _ _ _ _ _ _ _ c.in-Ok.ensures.follows

-- a section that answered did not want memory
pub returns-in-Ok-clause-stays : goal.returns-in-Ok-clause-stays
returns-in-Ok-clause-stays g c = λ memory. answered_stays g.T.FileToken.rules g.met.T.FileToken.tells _ _ _ _ _ _ _ _ c.in-Ok.ensures.records memory
