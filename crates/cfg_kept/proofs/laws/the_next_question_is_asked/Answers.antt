use Rattle.cfg_kept.proofs.Beginnings.{next_entry}
use Rattle.cfg_kept.proofs.laws.the_next_question_is_asked.Goals as goal

pub returns : goal.returns
returns g c = λ tree old journal question entry rest found new h k. next_entry tree old h.0 found journal entry rest question h.1 new h.2 k
