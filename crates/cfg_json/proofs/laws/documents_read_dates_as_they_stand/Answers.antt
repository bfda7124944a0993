use Rattle.std.proofs.Common.{true, false}
use Rattle.cfg_json.specs.Documents.{date_in, offset_date_in}
use Rattle.cfg_json.proofs.DatesTake.{reads_as}
use Rattle.cfg_json.proofs.laws.documents_read_dates_as_they_stand.Goals as goal

pub returns-clause-utc : goal.returns-clause-utc
unfolding date_in
returns-clause-utc c = λ text m. reads_as false text m

pub returns-clause-offset : goal.returns-clause-offset
unfolding offset_date_in
returns-clause-offset c = λ text m. reads_as true text m
