use Rattle.cfg_program.specs.Gated.{GatedAnswers}
use Rattle.cfg_program.specs.Scripts.{share_of_one_call}
use Rattle.cfg_program.proofs.Excluded.{comes_where_called}
use Rattle.cfg_program.proofs.ShareRefusals.{share_is_refused}
use Rattle.cfg_program.proofs.laws.a_refused_share_comes_where_the_input_calls_for_it.Goals as goal

pub returns-clause-share : goal.returns-clause-share
returns-clause-share c = λ source sink sources cause ended. share_is_refused source sink sources cause ended

pub returns-clause-gated : goal.returns-clause-gated
returns-clause-gated c = λ source sink sources cause ended. comes_where_called share_of_one_call GatedAnswers source sink cause ended
