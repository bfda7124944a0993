use Rattle.cfg_program.specs.Gated.{GatedAnswers}
use Rattle.cfg_program.specs.Scripts.{share_of_one_call}
use Rattle.cfg_program.proofs.Excluded.{run_comes, reading_comes}
use Rattle.cfg_program.proofs.laws.two_statuses_never_come.Goals as goal

pub returns-clause-run : goal.returns-clause-run
returns-clause-run c = λ seen handed command ended. run_comes seen handed command ended

pub returns-clause-gated : goal.returns-clause-gated
returns-clause-gated c = λ source sink sources ended. reading_comes source sink share_of_one_call GatedAnswers ended
