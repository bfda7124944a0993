use Rattle.cfg_json.proofs.DatesTake.{one_moment}
use Rattle.cfg_json.proofs.laws.dates_stand_for_one_moment.Goals as goal

pub returns : goal.returns
returns c = one_moment
