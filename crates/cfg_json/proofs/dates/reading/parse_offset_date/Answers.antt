use Rattle.std.proofs.Common.{true, ap, ◌∙◌}
use Rattle.cfg_json.specs.ReadingDates.{moment_at}
use Rattle.cfg_json.proofs.DatesTake.{found_is, only_is}
use Rattle.cfg_json.proofs.dates.reading.parse_offset_date.Goals as goal

pub returns-clause-found : goal.returns-clause-found
returns-clause-found c = found_is true c.args.text.now c.read_moment.result (c.read_moment.ensures ∙ ap (moment_at true) c.as_bytes.ensures.value)

pub returns-clause-only : goal.returns-clause-only
returns-clause-only c = λ m h. c.read_moment.ensures ∙ ap (moment_at true) c.as_bytes.ensures.value ∙ only_is true c.args.text.now m c.utf8.text h

pub returns-clause-exact : goal.returns-clause-exact
returns-clause-exact c = c.read_moment.ensures ∙ ap (moment_at true) c.as_bytes.ensures.value
