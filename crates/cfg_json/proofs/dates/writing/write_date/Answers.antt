use Rattle.std.proofs.Common.{refl}
use Rattle.cfg_json.proofs.DatesWritten.{inside, written_from}
use Rattle.cfg_json.proofs.dates.writing.write_date.Goals as goal

pub returns-clause-value : goal.returns-clause-value
returns-clause-value c = written_from c.in-Some.local c.args.moment _ _ _ c.in-Some.ensures.value.0 c.nanos.ensures.below c.nanos.ensures.value refl c.in-Some.ensures.value.1 c.in_ok-text.ensures

pub returns-clause-outside : goal.returns-clause-outside
returns-clause-outside c = λ o. absurd (inside c.in-Some.local c.args.moment.seconds c.in-Some.ensures.value.0 c.in-Some.ensures.value.1 o)
