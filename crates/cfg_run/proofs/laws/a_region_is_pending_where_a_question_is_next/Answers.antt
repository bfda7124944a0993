use Rattle.cfg_run.proofs.RegionLaws.{pending_exactly}
use Rattle.cfg_run.proofs.laws.a_region_is_pending_where_a_question_is_next.Goals as goal

pub returns : goal.returns
returns c = pending_exactly
