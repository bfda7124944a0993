use Rattle.cfg_json.proofs.DatesWritten.{written_stands}
use Rattle.cfg_json.proofs.laws.written_dates_stand_for_their_moments.Goals as goal

pub returns : goal.returns
returns c = written_stands
