use Rattle.cfg_run.proofs.CallLaws.{call_pending_exactly}
use Rattle.cfg_run.proofs.laws.a_call_is_pending_where_a_question_is_next.Goals as goal

pub returns : goal.returns
returns c = call_pending_exactly
