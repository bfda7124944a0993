use Rattle.cfg_chain.proofs.BegunCalls.{ended_or_one}
use Rattle.cfg_chain.proofs.laws.one_question_is_next.Goals as goal

pub returns : goal.returns
returns c = ended_or_one
